use Rattle.std.proofs.Common.{◌≡◌, [], ◌∷◌, refl, ap, length, arith}
use Rattle.std.specs.Vec.Iter.{into_iter_items}
use Rattle.harts.proofs.Tallied.{names_more, all_more, all_rest}
use Rattle.harts.proofs.locked.tallies_of.Goals as goal

pub loop-one-preserved : goal.loop-one-preserved
loop-one-preserved g c =
    let at = c.loop-one in let x = c.in-Some.one in let rest = into_iter_items c.next.new.self in
    let steps : into_iter_items at.one-iterator ≡ x ∷ rest = c.in-Some.ensures.steps.0 in
    let left = all_rest (λ t. t.list ≡ []) _ rest x steps at.invariant.2 in (
      names_more (λ tally. tally.turns.name) (λ t. t.name) at.tallies.items c.push.new.self.items _ _ rest x _ c.in_ok-push.ensures.items steps refl at.invariant.0,
      all_more (λ tally. tally.turns.list ≡ []) at.tallies.items c.push.new.self.items _ c.in_ok-push.ensures.items at.invariant.1 left.1,
      left.0,
      let was = at.invariant.3 in let gone = c.in-Some.ensures.steps.1 in let short = ap length steps in omega arith,
    )
