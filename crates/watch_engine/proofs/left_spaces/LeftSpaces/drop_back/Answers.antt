use Rattle.std.proofs.Common.{◌∙◌, sym, subst, ap, filter, Option, Some}
use Rattle.std.specs.List.Sorted.{IsNonDecreasingBy}
use Rattle.std.proofs.lemmas.List.Kept.{IsNonDecreasingBy-filter}
use Rattle.watch.specs.declared.trace.Space.{Space}
use Rattle.watch_engine.specs.declared.left.Left.{Left}
use Rattle.watch_engine.specs.Left.{is_other}
use Rattle.watch_engine.proofs.LeftOrder.{none_back}
use Rattle.watch_engine.proofs.left_spaces.LeftSpaces.drop_back.Goals as goal

pub invariant_of-self : goal.invariant_of-self
invariant_of-self c =
    subst (IsNonDecreasingBy (λ (l : Left). l.space.root)) (sym c.drop_back.ensures)
    (IsNonDecreasingBy-filter (λ (l : Left). l.space.root) (is_other c.args.hart (Some c.in-Some.space)) c.self.inside.spaces.items c.self.invariant)

pub returns-in-None : goal.returns-in-None
returns-in-None c =
    sym (ap (λ (s : Option Space). filter (is_other c.args.hart s) c.args.self.now) c.in-None.is ∙ none_back c.args.hart c.args.self.now)
