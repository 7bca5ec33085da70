-- Where the first of two bytes stands.
use Rattle.std.proofs.Common.{◌≡◌, ℕ, ◌+◌, ◌%◌, ◌^◌, ◌<◌, ◌≤◌, Bool, true, false, not, ◌||◌, cond, eqb, List, [], ◌∷◌, length, take, drop, map, replicate, get_or, refl, sym, ap, ◌∙◌, add_assoc, subst, inl, inr, arith}
use Rattle.std.specs.Prelude.{bit_or}
use Rattle.std.specs.List.{position_or_len}
use Rattle.std.specs.Simd.Lanes.{mask_l, top, zip2}
use Rattle.std.proofs.lemmas.Bool.{cases_eq, cases_lt, not-true, or_parts}
use Rattle.std.proofs.lemmas.List.{length-map}
use Rattle.std.proofs.lemmas.List.Sums.{position_or_len_is}
use Rattle.std.proofs.lemmas.Simd.{mask_l-mod, run_in_chunk_fails, run_in_chunk_le, run_in_chunk_stops, zip2_splat}
use Rattle.watch_report.specs.Bytes.{is_either}

-- ---- eight bytes

module _ (test : ℕ → Bool) (at : ℕ) where
  abbrev FailsTo : ℕ → Type 0
  FailsTo end = (k : ℕ) → at ≤ k → k < end → test k ≡ false

  one_more : (n m : ℕ) → m ≡ n + 1 → FailsTo n → test n ≡ false → FailsTo m
  one_more n m next before here k low high = elim (cases_eq n k) [
    | inl same ↦ subst (λ k. test k ≡ false) same here
    | inr apart ↦ before k low (omega arith)
  ]

  nowhere : FailsTo at
  nowhere k low high = absurd (omega (arith, low, high))

  pub none_of_eight : not (((((((test at || test (at + 1)) || test (at + 2)) || test (at + 3)) || test (at + 4)) || test (at + 5)) || test (at + 6)) || test (at + 7)) ≡ true → FailsTo (at + 8)
  none_of_eight h =
      let seven = or_parts _ _ (not-true _ h) in
      let six = or_parts _ _ seven.0 in
      let five = or_parts _ _ six.0 in
      let four = or_parts _ _ five.0 in
      let three = or_parts _ _ four.0 in
      let two = or_parts _ _ three.0 in
      let one = or_parts _ _ two.0 in
      let to_one = one_more at (at + 1) refl nowhere one.0 in
      let to_two = one_more (at + 1) (at + 2) (sym (add_assoc at 1 1)) to_one one.1 in
      let to_three = one_more (at + 2) (at + 3) (sym (add_assoc at 2 1)) to_two two.1 in
      let to_four = one_more (at + 3) (at + 4) (sym (add_assoc at 3 1)) to_three three.1 in
      let to_five = one_more (at + 4) (at + 5) (sym (add_assoc at 4 1)) to_four four.1 in
      let to_six = one_more (at + 5) (at + 6) (sym (add_assoc at 5 1)) to_five five.1 in
      let to_seven = one_more (at + 6) (at + 7) (sym (add_assoc at 6 1)) to_six six.1 in
      one_more (at + 7) (at + 8) (sym (add_assoc at 7 1)) to_seven seven.1

-- ---- a vector

-- a lane of a comparison
abbrev hit : ℕ → ℕ → ℕ
hit x y = cond (eqb x y) 255 0

lane : (s t : Bool) → top 7 (bit_or (cond s 255 0) (cond t 255 0)) ≡ s || t
lane true true = refl
lane true false = refl
lane false true = refl
lane false false = refl

lanes : (a b : ℕ) (xs : List ℕ) → map (top 7) (zip2 bit_or (map (λ x. hit x a) xs) (map (λ x. hit x b) xs)) ≡ map (is_either a b) xs
lanes a b [] = refl
lanes a b (x ∷ xs) = λ i. lane (eqb x a) (eqb x b) i ∷ lanes a b xs i

-- the set of lanes that two comparisons find
pub found_lanes : (a b : ℕ) (xs : List ℕ) → length xs ≡ 16
    → mask_l (map (top 7) (zip2 bit_or (zip2 hit xs (replicate 16 a)) (zip2 hit xs (replicate 16 b)))) % 2 ^ 64 ≡ mask_l (map (is_either a b) xs)
found_lanes a b xs long =
    (λ i. mask_l (map (top 7) (zip2 bit_or (zip2_splat hit xs 16 a long i) (zip2_splat hit xs 16 b long i))) % 2 ^ 64)
    ∙ ap (λ ms. mask_l ms % 2 ^ 64) (lanes a b xs)
    ∙ mask_l-mod (map (is_either a b) xs) 64 (omega (arith, length-map xs (is_either a b), long))

-- ---- the blocks of a text

-- 16 bytes, with none before them that passes, and r of them before the first that does
module _ (test : ℕ → Bool) (text : List ℕ) (at r : ℕ) (room : at + 16 ≤ length text) (counted : r ≡ position_or_len test (take 16 (drop at text)))
    (before : (k : ℕ) → k < at → test (get_or text k 0) ≡ false) where
  fails : (k : ℕ) → k < at + r → test (get_or text k 0) ≡ false
  fails k below = elim (cases_lt k at) [
    | inl less ↦ before k less
    | inr from ↦ run_in_chunk_fails test text at 16 r 0 room counted k from below
  ]

  pub first_in_block : (at + r < length text → r < 16) → at + r ≡ position_or_len test text
  first_in_block short =
      sym (position_or_len_is test text (at + r) 0 (omega (arith, room, run_in_chunk_le test text at 16 r 0 room counted)) fails (λ less. run_in_chunk_stops test text at 16 r 0 room counted (short less)))

  pub none_in_block : 16 ≤ r → (k : ℕ) → k < at + 16 → test (get_or text k 0) ≡ false
  none_in_block all k below = fails k (omega (arith, all, below))

-- ---- one byte

twice : (b : Bool) → b || b ≡ b
twice true = refl
twice false = refl

pub first_of_same : (a : ℕ) (text : List ℕ) → position_or_len (is_either a a) text ≡ position_or_len (λ x. eqb x a) text
first_of_same a text = λ i. position_or_len (λ x. twice (eqb x a) i) text
