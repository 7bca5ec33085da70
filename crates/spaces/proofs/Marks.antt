-- The marks in a bitmap of words of 64 bits: the lowest from a number on, and what one bit changes.
use Rattle.std.proofs.Common.{◌≡◌, ◌≢◌, ℕ, ◌+◌, ◌-◌, ◌*◌, ◌/◌, ◌%◌, ◌^◌, ◌<◌, ◌≤◌, true, false, List, ap, subst, sym, ◌∙◌, inl, inr, arith, eqb, w64, length, get_or-set_same, get_or-set_other, replicate}
use Rattle.std.specs.Prelude.{slice_index, slice_set}
use Rattle.std.specs.Int.{bit_at, trailing_zeros}
use Rattle.std.proofs.lemmas.Bool.{cases_eq, cases_lt}
use Rattle.std.proofs.Math.Nat.{div-le_self}
use Rattle.std.proofs.lemmas.List.{get_or-replicate}
use Rattle.std.proofs.lemmas.Nat.{shr-shr}
use Rattle.std.proofs.lemmas.Nat.Bits.{bit_at-zero, bit_at_above, bit_at_ones, bit_at-trailing_zeros}
use Rattle.spaces.specs.UnusedFrames.{marked_in, IsLowestMarked}

shifted : (x a i : ℕ) → bit_at (x / 2 ^ a) i ≡ bit_at x (a + i)
shifted x a i = ap (λ y. y % 2) (shr-shr x a i)

module _ (words : List ℕ) (next from : ℕ) (fits : slice_index words (next / 64) < 2 ^ 64) (low : from ≤ next)
    (none : (m : ℕ) → from ≤ m → m < next → marked_in words m ≡ false) where
  abbrev word : ℕ
  word = slice_index words (next / 64)

  abbrev ahead : ℕ
  ahead = word / 2 ^ (next % 64)

  -- the bits ahead are the marks of the numbers from this one on, as far as the word goes
  mark_at : (m : ℕ) → next ≤ m → m < (next / 64 + 1) * 64 → marked_in words m ≡ eqb (bit_at ahead (m - next)) 1
  mark_at m up down =
      let at : m / 64 ≡ next / 64 = omega (arith, up, down) in
      let bit : m % 64 ≡ next % 64 + (m - next) = omega (arith, up, down) in
      ap (λ k. eqb (bit_at (slice_index words k) (m % 64)) 1) at
      ∙ ap (λ k. eqb (bit_at word k) 1) bit
      ∙ ap (λ b. eqb b 1) (sym (shifted word (next % 64) (m - next)))

  clear_at : (m : ℕ) → next ≤ m → m < (next / 64 + 1) * 64 → bit_at ahead (m - next) ≡ 0 → marked_in words m ≡ false
  clear_at m up down e = mark_at m up down ∙ ap (λ b. eqb b 1) e

  -- none ahead
  pub passed : ahead ≡ 0 → (m : ℕ) → from ≤ m → m < (next / 64 + 1) * 64 → marked_in words m ≡ false
  passed e m up down = elim (cases_lt m next) [
    | inl before ↦ none m up before
    | inr after ↦ clear_at m after down (ap (λ x. bit_at x (m - next)) e ∙ bit_at-zero (m - next))
  ]

  module _ (some : ahead ≡ 0 → ⊥) where
    abbrev steps : ℕ
    steps = trailing_zeros w64 ahead

    small : ahead < 2 ^ 64
    small = (let less = div_le word (2 ^ (next % 64)) in omega (arith, fits, less))
      where
        div_le : (a b : ℕ) → a / b ≤ a
        div_le a b = div-le_self a b

    found_bit : (steps < 64) × (bit_at ahead steps ≡ 1) × ((i : ℕ) → i < steps → bit_at ahead i ≡ 0)
    found_bit = bit_at-trailing_zeros w64 ahead (omega (arith, some)) small

    within : next + steps < (next / 64 + 1) * 64
    within = elim (cases_lt (next % 64 + steps) 64) [
      | inl less ↦ omega (arith, less)
      | inr past ↦ absurd (
          let clear : bit_at ahead steps ≡ 0 = shifted word (next % 64) steps ∙ bit_at_above word 64 (next % 64 + steps) fits past in
          let set = found_bit.1 in
          omega (arith, clear, set))
    ]

    before : (m : ℕ) → from ≤ m → m < next + steps → marked_in words m ≡ false
    before m up down = elim (cases_lt m next) [
      | inl less ↦ none m up less
      | inr after ↦ clear_at m after (omega (arith, down, within)) (found_bit.2 (m - next) (omega (arith, after, down)))
    ]

    pub found : (to : ℕ) → next + steps < to → IsLowestMarked (marked_in words) from to (next + steps)
    found to high =
        let back : next + steps - next ≡ steps = omega arith in
        record {
          low = omega (arith, low);
          high = high;
          marked = mark_at (next + steps) (omega arith) within ∙ ap (λ i. eqb (bit_at ahead i) 1) back ∙ ap (λ b. eqb b 1) found_bit.1;
          lowest = before;
        }

    pub past : (to : ℕ) → to ≤ next + steps → (m : ℕ) → from ≤ m → m < to → marked_in words m ≡ false
    past to end m up down = before m up (omega (arith, end, down))

-- one word of the bitmap is set
pub marked_here : (words : List ℕ) (frame word : ℕ) → frame / 64 < length words → marked_in (slice_set words (frame / 64) word) frame ≡ eqb (bit_at word (frame % 64)) 1
marked_here words frame word there = ap (λ w. eqb (bit_at w (frame % 64)) 1) (get_or-set_same words (frame / 64) word 0 there)

pub other_mark : (words : List ℕ) (frame n word : ℕ) → n ≢ frame → frame / 64 < length words
    → ((i : ℕ) → i < 64 → i ≢ frame % 64 → bit_at word i ≡ bit_at (slice_index words (frame / 64)) i)
    → marked_in (slice_set words (frame / 64) word) n ≡ marked_in words n
other_mark words frame n word apart there same = elim (cases_eq (n / 64) (frame / 64)) [
  | inl at ↦
      let bit : n % 64 ≢ frame % 64 = λ e. apart (omega (arith, at, e)) in
      ap (λ k. eqb (bit_at (slice_index (slice_set words (frame / 64) word) k) (n % 64)) 1) at
      ∙ ap (λ w. eqb (bit_at w (n % 64)) 1) (get_or-set_same words (frame / 64) word 0 there)
      ∙ ap (λ b. eqb b 1) (same (n % 64) (omega arith) bit)
      ∙ ap (λ k. eqb (bit_at (slice_index words k) (n % 64)) 1) (sym at)
  | inr other ↦ ap (λ w. eqb (bit_at w (n % 64)) 1) (get_or-set_other words (frame / 64) (n / 64) word 0 other)
]

pub all_marked : (n : ℕ) → n < 512 → marked_in (replicate 8 (2 ^ 64 - 1)) n ≡ true
all_marked n less = ap (λ w. eqb (bit_at w (n % 64)) 1) (get_or-replicate 8 (n / 64) (2 ^ 64 - 1) 0 (omega (arith, less))) ∙ ap (λ b. eqb b 1) (bit_at_ones 64 (n % 64) (omega arith))

pub same_words : (words now : List ℕ) (from to n : ℕ) → words ≡ now → IsLowestMarked (marked_in words) from to n → IsLowestMarked (marked_in now) from to n
same_words words now from to n e is = subst (λ (w : List ℕ). IsLowestMarked (marked_in w) from to n) e is
