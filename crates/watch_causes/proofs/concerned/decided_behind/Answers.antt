use Rattle.std.proofs.Common.{rules, ◌∙◌, ◌≡◌, Some, ap, filter, subst, sym}
use Rattle.std.specs.BTreeMap.{get}
use Rattle.std.specs.Ordering.{nat_cmp}
use Rattle.std.specs.Prelude.{nat_le}
use Rattle.std.specs.List.Sorted.{IsNonDecreasing}
use Rattle.watch_causes.specs.Concerned.{IsListed, decided_at, places_of}
use Rattle.watch_causes.proofs.Concerning.{rising, same-decided}
use Rattle.watch_causes.proofs.concerned.decided_behind.Goals as goal

pub returns-in-Some : goal.returns-in-Some
returns-in-Some c = λ are.
    let scheme = c.args.scheme in
    let fences = c.args.fences.now in
    let w = c.args.warning.now in
    let moves = c.args.moves.now.kept.items in
    let start = c.args.start in
    let there : get nat_cmp c.args.lists.now w.hart ≡ Some c.in-Some.places.now = search rules in
    let listed : IsListed (places_of fences w.hart moves) (Some c.in-Some.places.now) = subst (IsListed (places_of fences w.hart moves)) there (are w.hart) in
    let own : c.as_slice.result.now ≡ places_of fences w.hart moves = c.as_slice.ensures.value ∙ listed in
    let rises : IsNonDecreasing c.as_slice.result.now = subst IsNonDecreasing (sym own) (rising fences w.hart 0 moves) in
    c.decided_at.ensures
    ∙ (ap (λ ms. decided_at scheme fences w ms c.not_below-places.result.now) c.behind.ensures
    ∙ (ap (decided_at scheme fences w moves) (c.not_below-places.ensures rises ∙ ap (filter (nat_le start)) own)
    ∙ same-decided scheme fences w moves start))
