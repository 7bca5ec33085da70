-- What `u64::from_str_radix` makes of decimal digits.
use Rattle.std.proofs.Common.{◌≡◌, ◌∙◌, ◌<◌, ℕ, Bool, true, false, refl, ap, cond, arith, List, [], ◌∷◌, length, drop, Result, Err, Some, None, nat_lt, nat_le, ltb-true, subst}
use Rattle.std.specs.Prelude.{◌^◌, ◌==◌, ◌&&◌, OkIff, if◌then◌else◌}
use Rattle.std.specs.Char.{digit_value, is_ascii_digit}
use Rattle.std.specs.List.{list_all}
use Rattle.std.specs.Str.Parse.{AllDigits, IsNumeral, ParsesUnsigned, digits_value, without_leading_plus}
use Rattle.std.proofs.lemmas.Bool.{leb-true, ne_eqb}
use Rattle.std.proofs.lemmas.Bool.Decides.{nat_tests}
use Rattle.clap.proofs.WalkLemmas.{both}
use Rattle.scenario.specs.Tasks.{is_decimal, number_in, with_room}

-- a digit is neither a plus nor worth 10
digit_is : (c : ℕ) → is_ascii_digit c ≡ true → (digit_value c < 10) × ((c == 43) ≡ false)
digit_is c is =
    let bounds = both (nat_le 48 c) (nat_le c 57) is in
    let low = leb-true 48 c bounds.0 in
    let high = leb-true c 57 bounds.1 in
    let worth : digit_value c < 10 = grind (arith, nat_tests, low, high) in
    (worth, ne_eqb c 43 (λ e. omega (arith, e, low)))

digits_from : (text : List ℕ) → list_all is_ascii_digit text ≡ true → AllDigits 10 text
digits_from [] e = tt
digits_from (c ∷ text) e =
    let parts = both _ _ e in
    ((digit_is c parts.0).0, digits_from text parts.1)

no_plus : (text : List ℕ) → list_all is_ascii_digit text ≡ true → without_leading_plus text ≡ text
no_plus [] e = refl
no_plus (c ∷ text) e = ap (λ (t : Bool). drop (cond t 1 0) (c ∷ text)) (digit_is c (both _ _ e).0).1

-- what is read of a text of digits
module _ {E : Type 0} (text : List ℕ) (r : Result ℕ E) (read : ParsesUnsigned 64 10 text r) (decimal : is_decimal text ≡ true) where
  parts : (nat_lt 0 (length text) ≡ true) × (list_all is_ascii_digit text ≡ true)
  parts = both _ _ decimal

  reads : OkIff r (IsNumeral 10 text × (digits_value 10 text < 2 ^ 64)) (digits_value 10 text)
  reads = subst (λ (t : List ℕ). OkIff r (IsNumeral 10 t × (digits_value 10 t < 2 ^ 64)) (digits_value 10 t)) (no_plus text parts.1) read

  its_number : number_in text ≡ with_room (digits_value 10 text)
  its_number = rw decimal refl

  pub too_large : (e : E) → r ≡ Err e → number_in text ≡ None
  too_large e is = its_number ∙ go (nat_lt (digits_value 10 text) (2 ^ 64)) refl
    where
      numeral : IsNumeral 10 text
      numeral = (ltb-true _ _ parts.0, digits_from text parts.1)

      go : (t : Bool) → nat_lt (digits_value 10 text) (2 ^ 64) ≡ t → with_room (digits_value 10 text) ≡ None
      go true small = absurd ((rw is at reads) (numeral, ltb-true _ _ small))
      go false large = ap (λ (t : Bool). if t then Some (digits_value 10 text) else None) large
