-- Pairs of numbers in order.
use Rattle.std.proofs.Common.{ℕ, ◌≡◌, ◌≤◌, Bool, true, false, cond, ap, sym, ◌∙◌, refl, arith, List, [], ◌∷◌}
use Rattle.std.proofs.lemmas.Bool.{and_parts, eq-eqb, eqb-true, or_left, or_right}
use Rattle.std.proofs.lemmas.Bool.Decides.{nat_tests}
use Rattle.std.specs.Prelude.{◌==◌, ◌&&◌, ◌||◌, not, nat_lt}
use Rattle.std.specs.declared.cmp.Ordering.{Ordering}
use Rattle.std.specs.declared.cmp.Ordering.TheVariants.{Less, Equal, Greater}
use Rattle.std.specs.Ordering.{is_eq, nat_cmp, ordering_then}
use Rattle.std.specs.BTreeSet.{BTreeSet, contains, keys_between}
use Rattle.std.specs.declared.ops.Bound.TheVariants.{Included}
use Rattle.std.specs.BTreeMap.Range.{range_contains}
use Rattle.std.specs.List.{filter, list_any}
use Rattle.watch_tables.specs.Pointers.{has_number, pair_cmp}

first-then : (less same : Bool) (second : Ordering) → is_eq (ordering_then (cond less Less (cond same Equal Greater)) second) ≡ (not less && (same && is_eq second))
first-then true same second = refl
first-then false true second = refl
first-then false false second = refl

pub is-same : (a b : ℕ) → is_eq (nat_cmp a b) ≡ (a == b)
is-same a b = grind (arith, nat_tests)

not-less : (a b : ℕ) (rest : Bool) → (not (nat_lt a b) && ((a == b) && rest)) ≡ ((a == b) && rest)
not-less a b rest = grind (arith, nat_tests)

-- two pairs are one
pub same-pair : (a b t n : ℕ) → is_eq (pair_cmp (a, b) (t, n)) ≡ ((a == t) && (b == n))
same-pair a b t n = first-then (nat_lt a t) (a == t) (nat_cmp b n) ∙ not-less a t (is_eq (nat_cmp b n)) ∙ ap (λ r. (a == t) && r) (is-same b n)

chosen-or : (test old : Bool) → cond test true old ≡ (test || old)
chosen-or true old = refl
chosen-or false old = refl

chosen-and : (test old : Bool) → cond test false old ≡ (not test && old)
chosen-and true old = refl
chosen-and false old = refl

-- what a set of pairs is with one more, and with one less
module _ (old new : BTreeSet (ℕ × ℕ)) (table number : ℕ) where
  pub with-pair : ((q : ℕ × ℕ) → contains pair_cmp new q ≡ cond (is_eq (pair_cmp (table, number) q)) true (contains pair_cmp old q))
      → (t n : ℕ) → contains pair_cmp new (t, n) ≡ (((table == t) && (number == n)) || contains pair_cmp old (t, n))
  with-pair set t n = set (t, n) ∙ ap (λ b. cond b true (contains pair_cmp old (t, n))) (same-pair table number t n) ∙ chosen-or ((table == t) && (number == n)) (contains pair_cmp old (t, n))

  pub without-pair : ((q : ℕ × ℕ) → contains pair_cmp new q ≡ cond (is_eq (pair_cmp (table, number) q)) false (contains pair_cmp old q))
      → (t n : ℕ) → contains pair_cmp new (t, n) ≡ (not ((table == t) && (number == n)) && contains pair_cmp old (t, n))
  without-pair set t n = set (t, n) ∙ ap (λ b. cond b false (contains pair_cmp old (t, n))) (same-pair table number t n) ∙ chosen-and ((table == t) && (number == n)) (contains pair_cmp old (t, n))

-- a pair with the first number of a range, up to its last one, is in it
within : (t to n : ℕ) → n ≤ to → range_contains pair_cmp (Included (t, 0)) (Included (t, to)) (t, n) ≡ true
within t to n low = grind (arith, nat_tests)

module _ (t to n : ℕ) (high : n ≤ to) where
  abbrev is_in : ℕ × ℕ → Bool
  is_in = range_contains pair_cmp (Included (t, 0)) (Included (t, to))

  abbrev is_this : ℕ × ℕ → Bool
  is_this = λ q. is_eq (pair_cmp (t, n) q)

  this-is : (a b : ℕ) → is_this (a, b) ≡ true → (t ≡ a) × (n ≡ b)
  this-is a b is = let both = and_parts (t == a) (n == b) (sym (same-pair t n a b) ∙ is) in (eqb-true t a both.0, eqb-true n b both.1)

  one-more : (a b : ℕ) (pairs : List (ℕ × ℕ)) (same inside : Bool) → is_this (a, b) ≡ same → is_in (a, b) ≡ inside → (list_any is_this pairs ≡ true → has_number (filter is_in pairs) n ≡ true)
      → (same || list_any is_this pairs) ≡ true → has_number (cond inside ((a, b) ∷ filter is_in pairs) (filter is_in pairs)) n ≡ true
  one-more a b pairs false true is at rest has = or_right (b == n) (has_number (filter is_in pairs) n) (rest has)
  one-more a b pairs false false is at rest has = rest has
  one-more a b pairs true true is at rest has = or_left (b == n) (has_number (filter is_in pairs) n) (eq-eqb b n (sym (this-is a b is).1))
  one-more a b pairs true false is at rest has =
      let never : true ≡ false = sym (within t to n high) ∙ ap (λ k. is_in (k, n)) (this-is a b is).0 ∙ ap (λ k. is_in (a, k)) (this-is a b is).1 ∙ at in
      absurd (cc)

  -- what a range of pairs has
  pub in-range : (pairs : List (ℕ × ℕ)) → list_any is_this pairs ≡ true → has_number (filter is_in pairs) n ≡ true
  in-range [] has = absurd (cc)
  in-range (q ∷ pairs) has = one-more q.0 q.1 pairs (is_this q) (is_in q) refl refl (in-range pairs) has

  pub in-part : (set : BTreeSet (ℕ × ℕ)) (start end : ℕ × ℕ) (part : List (ℕ × ℕ)) → start ≡ (t, 0) → end ≡ (t, to) → part ≡ keys_between pair_cmp (Included start) (Included end) set → contains pair_cmp set (t, n) ≡ true → has_number part n ≡ true
  in-part set start end part at_start at_end is has =
      ap (λ l. has_number l n) (is ∙ ap (λ s. keys_between pair_cmp (Included s) (Included end) set) at_start ∙ ap (λ e. keys_between pair_cmp (Included (t, 0)) (Included e) set) at_end) ∙ in-range set.keys has
