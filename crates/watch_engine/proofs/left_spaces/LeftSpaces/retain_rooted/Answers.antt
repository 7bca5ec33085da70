use Rattle.std.proofs.Common.{◌≡◌, sym, subst, filter, arith}
use Rattle.std.proofs.lemmas.Grind.{common_steps}
use Rattle.std.specs.List.Sorted.{IsNonDecreasingBy}
use Rattle.std.proofs.lemmas.List.Kept.{IsNonDecreasingBy-filter}
use Rattle.watch_engine.specs.declared.left.Left.{Left}
use Rattle.watch_engine.specs.Left.{has_its_root}
use Rattle.watch_engine.proofs.left_spaces.LeftSpaces.retain_rooted.Goals as goal

pub invariant_of-self : goal.invariant_of-self
invariant_of-self c =
    let kept : c.truncate.new.self.items ≡ filter (has_its_root c.args.roots.now) c.self.inside.spaces.items = grind (arith, common_steps) in
    subst (IsNonDecreasingBy (λ (l : Left). l.space.root)) (sym kept) (IsNonDecreasingBy-filter (λ (l : Left). l.space.root) (has_its_root c.args.roots.now) c.self.inside.spaces.items c.self.invariant)
