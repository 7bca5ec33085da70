-- The search of 16 slots at once: bit k of the mask stands for slot k.
use Rattle.std.proofs.Common.{◌≡◌, ◌≢◌, sym, ◌∙◌, ap, subst, ℕ, ◌-◌, ◌%◌, ◌^◌, ◌<◌, Bool, true, false, cond, eqb, w32, List, map, length, inl, inr, arith}
use Rattle.std.specs.Prelude.{◌==◌, bit_and, replicate, slice_index}
use Rattle.std.proofs.lemmas.Nat.Bits.{bit_at-zero}
use Rattle.std.specs.Int.{bit_at}
use mir.Val.{bits, hbits}
use Rattle.std.specs.Int.Count.{count_trailing_zeros}
use Rattle.std.specs.Simd.Lanes.{mask_l, top, zip2}
use Rattle.std.proofs.lemmas.Bool.{cases_Bool, cases_eq, eq-eqb}
use Rattle.std.proofs.lemmas.Simd.{bit_mask_l, first_set_mask_l, get_or-replicate, get_or-zip2, length-zip2, mask_l-lt, mask_l-mod, tops_compared}
use Rattle.std.proofs.lemmas.List.{length-map, get_or-map}
use Rattle.tlb.specs.Slots.{IsIn, slot_of}

-- a mask of 16 lanes has 16 bits
pub mask_fits : (p : ℕ → Bool) (xs : List ℕ) → length xs ≡ 16 → mask_l (map p xs) < 2 ^ 16
mask_fits p xs long =
    let wide : length (map p xs) ≡ 16 = length-map xs p ∙ long in
    let P : ℕ → Type 0 = λ n. mask_l (map p xs) < 2 ^ n in
    subst P wide (mask_l-lt (map p xs))

pub is_in_mask : (p : ℕ → Bool) (xs : List ℕ) (slot : ℕ) → length xs ≡ 16 → slot < 16 → p (slice_index xs slot) ≡ true → IsIn (mask_l (map p xs)) slot
is_in_mask p xs slot long within on = bit_mask_l (map p xs) slot ∙ ap (λ b. cond b 1 0) (get_or-map p xs slot 0 false (omega arith) ∙ on)

-- the comparison of two vectors of 16 lanes
module _ (xs ys : List ℕ) (long : length xs ≡ 16) (other : length ys ≡ 16) where
  lanes : length (zip2 eqb xs ys) ≡ 16
  lanes = length-zip2 eqb xs ys (long ∙ sym other) ∙ long

  pub compared : mask_l (map (top (hbits w32)) (zip2 (λ a b. cond (eqb a b) (2 ^ bits w32 - 1) 0) xs ys)) % 2 ^ 64 ≡ mask_l (zip2 eqb xs ys)
  compared = ap (λ ms. mask_l ms % 2 ^ 64) (tops_compared w32 eqb xs ys) ∙ mask_l-mod (zip2 eqb xs ys) 64 (omega (arith, lanes))

  pub compared_fits : mask_l (zip2 eqb xs ys) < 2 ^ 16
  compared_fits = let P : ℕ → Type 0 = λ n. mask_l (zip2 eqb xs ys) < 2 ^ n in subst P lanes (mask_l-lt (zip2 eqb xs ys))

  pub is_in_compared : (slot : ℕ) → slot < 16 → slice_index xs slot ≡ slice_index ys slot → IsIn (mask_l (zip2 eqb xs ys)) slot
  is_in_compared slot within same =
      bit_mask_l (zip2 eqb xs ys) slot
      ∙ ap (λ b. cond b 1 0) (get_or-zip2 eqb xs ys slot 0 0 false (omega arith) (omega arith) ∙ eq-eqb _ _ same)

-- a column under one mask
module _ (xs : List ℕ) (mask : ℕ) (long : length xs ≡ 16) where
  abbrev pub column : List ℕ
  column = zip2 bit_and xs (replicate 16 mask)

  pub column_long : length column ≡ 16
  column_long = length-zip2 bit_and xs (replicate 16 mask) long ∙ long

  pub column_at : (slot : ℕ) → slot < 16 → slice_index column slot ≡ bit_and (slice_index xs slot) mask
  column_at slot within = get_or-zip2 bit_and xs (replicate 16 mask) slot 0 0 0 (omega arith) within ∙ ap (bit_and (slice_index xs slot)) (get_or-replicate 16 slot mask 0 within)

pub lowest_in_mask : (ages : List ℕ) (age : ℕ) → length ages ≡ 16 → slot_of ages age < 16 → count_trailing_zeros 64 (mask_l (map (λ a. a == age) ages)) ≡ slot_of ages age
lowest_in_mask ages age long within =
    let first = first_set_mask_l (λ a. a == age) ages 16 long (omega arith) in
    elim (cases_Bool (eqb (mask_l (map (λ a. a == age) ages)) 0)) [
      | inl none ↦ absurd (let past : 16 ≡ slot_of ages age = rw none at first in omega arith)
      | inr some ↦ rw some at first
    ]

-- the empty set has no slot
pub none_in_empty : (slot : ℕ) → ¬ IsIn 0 slot
none_in_empty slot on = let one : ◌≡◌ {A = ℕ} 0 1 = sym (bit_at-zero slot) ∙ on in omega arith

-- where a set less one slot is empty, it has no other
pub alone_in : (near rest slot k : ℕ) → rest ≡ 0 → ((j : ℕ) → j < 16 → j ≢ slot → bit_at rest j ≡ bit_at near j) → k < 16 → IsIn near k → k ≡ slot
alone_in near rest slot k empty others within on = elim (cases_eq k slot) [
  | inl same ↦ same
  | inr apart ↦ absurd (none_in_empty k (subst (λ n. IsIn n k) empty (others k within apart ∙ on)))
]
