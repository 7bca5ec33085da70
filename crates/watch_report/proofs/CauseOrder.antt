-- The order of causes at the end: all of them, in order, and those that are alike as they began.
use Rattle.std.proofs.Common.{◌≡◌, ℕ, ◌+◌, ◌<◌, zero, suc, Bool, true, false, List, [], ◌∷◌, cond, get_or, length, refl, sym, ◌∙◌, ap, subst, arith}
use Rattle.std.specs.Cmp.{IsStrictWeakOrder}
use Rattle.std.specs.List.{filter, position_or_len}
use Rattle.std.specs.List.Sorted.{IsPermutation, IsSortedBy, IsStableBy, ties}
use Rattle.std.proofs.lemmas.Bool.{and_parts, both_ways, false≢true, not-true}
use Rattle.std.proofs.lemmas.List.Sorted.{IsPermutation-cons, IsPermutation-insert, IsPermutation-refl, IsPermutation-trans, IsStrictWeakOrder-by_number, IsStrictWeakOrder-flip, sorted_far}
use Rattle.watch_causes.specs.declared.tally.Tally.{Tally}
use Rattle.watch_report.specs.declared.cause_line.NumberedTally.{NumberedTally}
use Rattle.watch_report.specs.declared.found.Found.{Found}
use Rattle.watch_report.specs.CauseLines.{AreInOrder, by_test, comes_before, has_reachable, has_reuse, has_used, is_of_users, numbered_by, numbered_from, ordered, ordered_from, placed}
use Rattle.watch_report.proofs.CauseLemmas.{behind, is_placed}

-- ---- one comes before another

one_way_by : (a b xy yx : Bool) → (xy ≡ true → yx ≡ false) → by_test a b xy ≡ true → by_test b a yx ≡ false
one_way_by true true xy yx h e = h e
one_way_by true false xy yx h e = refl
one_way_by false true xy yx h e = absurd (false≢true e)
one_way_by false false xy yx h e = h e

chain_by : (a b c xy yz xz : Bool) → (xy ≡ false → yz ≡ false → xz ≡ false) → by_test a b xy ≡ false → by_test b c yz ≡ false → by_test a c xz ≡ false
chain_by true true true xy yz xz h p q = h p q
chain_by true true false xy yz xz h p q = absurd (false≢true (sym q))
chain_by true false true xy yz xz h p q = absurd (false≢true (sym p))
chain_by true false false xy yz xz h p q = absurd (false≢true (sym p))
chain_by false true true xy yz xz h p q = refl
chain_by false true false xy yz xz h p q = absurd (false≢true (sym q))
chain_by false false true xy yz xz h p q = refl
chain_by false false false xy yz xz h p q = h p q

first_by : (test : NumberedTally → Bool) (lt : NumberedTally → NumberedTally → Bool) → IsStrictWeakOrder lt → IsStrictWeakOrder (λ x y. by_test (test x) (test y) (lt x y))
first_by test lt o = record {
  one_way = λ x y e. one_way_by (test x) (test y) (lt x y) (lt y x) (o.one_way x y) e;
  chain = λ x y z p q. chain_by (test x) (test y) (test z) (lt x y) (lt y z) (lt x z) (o.chain x y z) p q;
}

comes_strictly : IsStrictWeakOrder comes_before
comes_strictly =
    first_by is_of_users _ (first_by has_reuse _ (first_by has_used _ (first_by has_reachable _
    (IsStrictWeakOrder-flip _ (IsStrictWeakOrder-by_number (λ (one : NumberedTally). one.tally.findings))))))

-- ---- in order

-- none comes before the one in front of it
abbrev Ordered : List NumberedTally → Type 0
Ordered [] = Unit {0}
Ordered (one ∷ []) = Unit {0}
Ordered (one ∷ next ∷ ones) = (comes_before next one ≡ false) × Ordered (next ∷ ones)

-- behind one that it does not come before
behind_by : (b : Bool) (front one next : NumberedTally) (ones : List NumberedTally) → comes_before next one ≡ b → comes_before one front ≡ false → Ordered (front ∷ next ∷ ones)
    → (comes_before one next ≡ false → Ordered (next ∷ placed one ones)) → Ordered (front ∷ cond b (next ∷ placed one ones) (one ∷ next ∷ ones))
behind_by true front one next ones e late order rest = (order.0, rest (comes_strictly.one_way next one e))
behind_by false front one next ones e late order rest = (late, (e, order.1))

placed_behind : (front one : NumberedTally) (ones : List NumberedTally) → comes_before one front ≡ false → Ordered (front ∷ ones) → Ordered (front ∷ placed one ones)
placed_behind front one [] late order = (late, tt)
placed_behind front one (next ∷ ones) late order = behind_by (comes_before next one) front one next ones refl late order (λ so. placed_behind next one ones so order.1)

placed_by : (b : Bool) (one next : NumberedTally) (ones : List NumberedTally) → comes_before next one ≡ b → Ordered (next ∷ ones)
    → Ordered (cond b (next ∷ placed one ones) (one ∷ next ∷ ones))
placed_by true one next ones e order = placed_behind next one ones (comes_strictly.one_way next one e) order
placed_by false one next ones e order = (e, order)

placed_ordered : (one : NumberedTally) (ones : List NumberedTally) → Ordered ones → Ordered (placed one ones)
placed_ordered one [] order = tt
placed_ordered one (next ∷ ones) order = placed_by (comes_before next one) one next ones refl order

all_ordered : (founds : List Found) (number : ℕ) (tallies : List Tally) → Ordered (ordered_from founds number tallies)
all_ordered founds number [] = tt
all_ordered founds number (t ∷ tallies) = placed_ordered (numbered_by founds number t) (ordered_from founds (number + 1) tallies) (all_ordered founds (number + 1) tallies)

adjacent : (ones : List NumberedTally) → Ordered ones → (k : ℕ) (d : NumberedTally) → suc k < length ones → comes_before (get_or ones (suc k) d) (get_or ones k d) ≡ false
adjacent [] order k d below = absurd (omega (arith, below))
adjacent (one ∷ []) order k d below = absurd (omega (arith, below))
adjacent (one ∷ next ∷ ones) order zero d below = order.0
adjacent (one ∷ next ∷ ones) order (suc k) d below = adjacent (next ∷ ones) order.1 k d (omega (arith, below))

sorted : (ones : List NumberedTally) → Ordered ones → IsSortedBy comes_before ones
sorted ones order k d low below =
    let next : k + 1 ≡ suc k = omega arith in
    subst (λ (n : ℕ). comes_before (get_or ones n d) (get_or ones k d) ≡ false) (sym next) (adjacent ones order k d (omega (arith, below)))

pub causes_in_order : (founds : List Found) (tallies : List Tally) → AreInOrder (ordered founds tallies)
causes_in_order founds tallies front back d order below =
    sorted_far comes_before comes_strictly (ordered founds tallies) (sorted (ordered founds tallies) (all_ordered founds 1 tallies)) front back d order below

-- ---- all of them

placed_among : (one : NumberedTally) (ones : List NumberedTally) → IsPermutation (one ∷ ones) (placed one ones)
placed_among one ones =
    subst (λ (all : List NumberedTally). IsPermutation (one ∷ ones) all) (is_placed one ones) (IsPermutation-insert ones (position_or_len (behind one) ones) one)

ordered_among : (founds : List Found) (number : ℕ) (tallies : List Tally) → IsPermutation (numbered_from founds number tallies) (ordered_from founds number tallies)
ordered_among founds number [] = IsPermutation-refl []
ordered_among founds number (t ∷ tallies) =
    IsPermutation-trans _ _ _
    (IsPermutation-cons (numbered_by founds number t) (numbered_from founds (number + 1) tallies) (ordered_from founds (number + 1) tallies) (ordered_among founds (number + 1) tallies))
    (placed_among (numbered_by founds number t) (ordered_from founds (number + 1) tallies))

pub all_causes : (founds : List Found) (tallies : List Tally) → IsPermutation (numbered_from founds 1 tallies) (ordered founds tallies)
all_causes founds tallies = ordered_among founds 1 tallies

-- ---- those that are alike

module _ (x : NumberedTally) where
  abbrev like : NumberedTally → Bool
  like one = ties comes_before x one

  -- of two that are alike none comes before the other
  apart : (next one : NumberedTally) → comes_before next one ≡ true → like next ≡ true → like one ≡ true → ⊥
  apart next one e left right =
      let of_next = and_parts _ _ left in
      let of_one = and_parts _ _ right in
      both_ways (comes_before next one) (comes_strictly.chain next x one (not-true _ of_next.1) (not-true _ of_one.0)) e

  swapped : (b c : Bool) (next one : NumberedTally) (rest : List NumberedTally) → (b ≡ true → c ≡ true → ⊥)
      → cond b (next ∷ cond c (one ∷ rest) rest) (cond c (one ∷ rest) rest) ≡ cond c (one ∷ cond b (next ∷ rest) rest) (cond b (next ∷ rest) rest)
  swapped true true next one rest h = absurd (h refl refl)
  swapped true false next one rest h = refl
  swapped false true next one rest h = refl
  swapped false false next one rest h = refl

  alike_by : (b : Bool) (one next : NumberedTally) (ones : List NumberedTally) → comes_before next one ≡ b → filter like (placed one ones) ≡ filter like (one ∷ ones)
      → filter like (cond b (next ∷ placed one ones) (one ∷ next ∷ ones)) ≡ filter like (one ∷ next ∷ ones)
  alike_by true one next ones e rest =
      ap (λ (rest : List NumberedTally). cond (like next) (next ∷ rest) rest) rest
      ∙ swapped (like next) (like one) next one (filter like ones) (apart next one e)
  alike_by false one next ones e rest = refl

  placed_alike : (one : NumberedTally) (ones : List NumberedTally) → filter like (placed one ones) ≡ filter like (one ∷ ones)
  placed_alike one [] = refl
  placed_alike one (next ∷ ones) = alike_by (comes_before next one) one next ones refl (placed_alike one ones)

  ordered_alike : (founds : List Found) (number : ℕ) (tallies : List Tally) → filter like (ordered_from founds number tallies) ≡ filter like (numbered_from founds number tallies)
  ordered_alike founds number [] = refl
  ordered_alike founds number (t ∷ tallies) =
      placed_alike (numbered_by founds number t) (ordered_from founds (number + 1) tallies)
      ∙ ap (λ (rest : List NumberedTally). cond (like (numbered_by founds number t)) (numbered_by founds number t ∷ rest) rest) (ordered_alike founds (number + 1) tallies)

pub alike_causes : (founds : List Found) (tallies : List Tally) → IsStableBy comes_before (numbered_from founds 1 tallies) (ordered founds tallies)
alike_causes founds tallies x = ordered_alike x founds 1 tallies
