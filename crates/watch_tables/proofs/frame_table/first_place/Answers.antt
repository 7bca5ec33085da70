use Rattle.std.proofs.Common.{rules, ℕ, ◌≡◌, ◌<◌, ◌≤◌, List, ◌∷◌, Option, Some, None, IsSome, refl, subst, arith}
use Rattle.std.specs.Ordering.{nat_cmp}
use Rattle.std.specs.BTreeMap.{BTreeMap, get}
use Rattle.std.specs.declared.ops.Bound.TheVariants.{Included, Excluded}
use Rattle.std.specs.BTreeMap.Range.{IsInRange, IsRangeOf}
use Rattle.std.proofs.lemmas.Map.Keys.{le_from_not_gt}
use Rattle.watch_tables.proofs.frame_table.first_place.Goals as goal

none_unless : (o : Option ℕ) → (IsSome o → ⊥) → o ≡ None
none_unless None h = refl
none_unless (Some x) h = absurd (h refl)

in_range : (start end q : ℕ) → start ≤ q → q < end → IsInRange nat_cmp (Included start) (Excluded end) q
in_range start end q from below = search rules

before_end : (start end q : ℕ) → IsInRange nat_cmp (Included start) (Excluded end) q → q < end
before_end start end q inside = search (rules, inside.1)

-- before the first key of a range is none
none_before_first : (map : BTreeMap ℕ ℕ) (start end : ℕ) (first : ℕ × ℕ) (found rest : List (ℕ × ℕ)) → found ≡ first ∷ rest → IsRangeOf nat_cmp (Included start) (Excluded end) map found
    → (q : ℕ) → start ≤ q → q < first.0 → get nat_cmp map q ≡ None
none_before_first map start end first found rest is part q from before =
    let of_cons = subst (IsRangeOf nat_cmp (Included start) (Excluded end) map) is part in
    let below : first.0 < end = before_end start end first.0 (of_cons.1).0 in
    none_unless (get nat_cmp map q) (λ has.
    let least = le_from_not_gt first.0 q (of_cons.2 q (in_range start end q from (omega arith)) has) in
    omega arith)

pub returns-in-Some-clause-least : goal.returns-in-Some-clause-least
returns-in-Some-clause-least c =
    none_before_first c.args.places.now c.args.start c.args.end (c.in-Some.ppn.now, c.in-Some.place.now) _ _ c.in-Some.ensures.steps (c.range.ensures.in_range tt)
