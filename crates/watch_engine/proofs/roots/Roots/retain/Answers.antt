use Rattle.std.proofs.Common.{◌≡◌, ◌∙◌, sym, subst, ap, filter, rules}
use Rattle.std.specs.List.Sorted.{IsNonDecreasing}
use Rattle.std.proofs.lemmas.Fn.{filter_same}
use Rattle.std.proofs.lemmas.List.Kept.{IsNonDecreasingBy-filter}
use Rattle.watch_engine.specs.Held.{stays}
use Rattle.watch_engine.proofs.roots.Roots.retain.Goals as goal

pub invariant_of-self : goal.invariant_of-self
invariant_of-self c =
    let kept : c.retain.new.self.items ≡ filter (stays c.args.frames c.args.satps.now) c.self.inside.ppns.items = filter_same _ _ _ (λ x b g called. search rules) _ _ c.retain.ensures.filtered in
    subst IsNonDecreasing (sym kept) (IsNonDecreasingBy-filter (λ r. r) (stays c.args.frames c.args.satps.now) c.self.inside.ppns.items c.self.invariant)

pub returns : goal.returns
returns c =
    let kept : c.retain.new.self.items ≡ filter (stays c.args.frames c.args.satps.now) c.self.inside.ppns.items = filter_same _ _ _ (λ x b g called. search rules) _ _ c.retain.ensures.filtered in
    kept ∙ ap (filter (stays c.args.frames c.args.satps.now)) c.self.view_is
