-- The hexadecimal digits of a number, written from the last to the first.
use Rattle.std.proofs.Common.{◌≡◌, ℕ, suc, ◌+◌, ◌-◌, ◌*◌, ◌/◌, ◌%◌, ◌^◌, ◌<◌, ◌≤◌, Bool, true, false, cond, eqb, List, [], ◌∷◌, drop, length, set, refl, ap, subst, ◌∙◌, inl, inr, arith}
use Rattle.std.specs.Fmt.{digit_glyph, digits, digits_onto}
use Rattle.std.proofs.lemmas.Bool.{cases_lt, eq-eqb, ne_eqb}
use Rattle.std.proofs.lemmas.List.{drop-set}
use Rattle.std.proofs.lemmas.Nat.{shr_below}

-- no digit is written yet
pub none_written : (n : ℕ) → digits_onto 64 16 false n [] ≡ digits 16 false n
unfolding digits
none_written n = refl

module _ (n : ℕ) (written : List ℕ) where
  abbrev with_digit : List ℕ
  with_digit = digit_glyph false (n % 16) ∷ written

  spelled : (k : ℕ) (t : Bool) → eqb (n / 16) 0 ≡ t → digits_onto (suc k) 16 false n written ≡ cond t with_digit (digits_onto k 16 false (n / 16) with_digit)
  spelled k t e = ap (λ (b : Bool). cond b with_digit (digits_onto k 16 false (n / 16) with_digit)) e

  -- the first digit
  pub first_digit : (k : ℕ) → n / 16 ≡ 0 → digits_onto (suc k) 16 false n written ≡ with_digit
  first_digit k e = spelled k true (eq-eqb _ 0 e)

  -- and any other
  pub other_digit : (k : ℕ) → (n / 16 ≡ 0 → ⊥) → digits_onto (suc k) 16 false n written ≡ digits_onto k 16 false (n / 16) with_digit
  other_digit k e = spelled k false (ne_eqb _ 0 e)

-- a digit is written before the others
pub written_before : (out : List ℕ) (at x : ℕ) → 0 < at → at ≤ length out → drop (at - 1) (set out (at - 1) x) ≡ x ∷ drop at out
written_before out at x some most =
    let next : at - 1 + 1 ≡ at = omega (arith, some) in
    drop-set out (at - 1) x (omega (arith, some, most)) ∙ ap (λ k. x ∷ drop k out) next

-- where a digit is left there is room for it
pub room_left : (n at : ℕ) → 0 < at → n < 2 ^ (4 * at) → (n / 16 < 2 ^ (4 * (at - 1))) × ((n / 16 ≡ 0 → ⊥) → 0 < at - 1)
room_left n at some fits =
    let split : 4 * at ≡ 4 * (at - 1) + 4 = omega (arith, some) in
    let below : n / 16 < 2 ^ (4 * (at - 1)) = shr_below n (4 * (at - 1)) 4 (subst (λ k. n < 2 ^ k) split fits) in (
      below,
      λ left. elim (cases_lt 0 (at - 1)) [
        | inl more ↦ more
        | inr last ↦ absurd (let none : 4 * (at - 1) ≡ 0 = omega (arith, last) in let one : n / 16 < 2 ^ 0 = subst (λ k. n / 16 < 2 ^ k) none below in left (omega (arith, one)))
      ],
    )
