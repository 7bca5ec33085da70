use Rattle.std.proofs.Common.{◌≡◌, ◌∙◌, sym, subst, ap, filter, rules}
use Rattle.std.specs.List.Sorted.{IsNonDecreasingBy}
use Rattle.std.proofs.lemmas.Fn.{filter_same}
use Rattle.std.proofs.lemmas.List.Kept.{IsNonDecreasingBy-filter}
use Rattle.watch_engine.specs.declared.left.Left.{Left}
use Rattle.watch_engine.specs.Left.{is_of_other}
use Rattle.watch_engine.proofs.left_spaces.LeftSpaces.drop_of.Goals as goal

pub invariant_of-self : goal.invariant_of-self
invariant_of-self c =
    let kept : c.retain.new.self.items ≡ filter (is_of_other c.args.hart) c.self.inside.spaces.items = filter_same _ _ _ (λ x b g called. search rules) _ _ c.retain.ensures.filtered in
    subst (IsNonDecreasingBy (λ (l : Left). l.space.root)) (sym kept) (IsNonDecreasingBy-filter (λ (l : Left). l.space.root) (is_of_other c.args.hart) c.self.inside.spaces.items c.self.invariant)

pub returns : goal.returns
returns c =
    let kept : c.retain.new.self.items ≡ filter (is_of_other c.args.hart) c.self.inside.spaces.items = filter_same _ _ _ (λ x b g called. search rules) _ _ c.retain.ensures.filtered in
    kept ∙ ap (filter (is_of_other c.args.hart)) c.self.view_is
