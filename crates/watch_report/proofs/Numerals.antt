-- Digits read from the left.
use Rattle.std.proofs.Common.{◌≡◌, ℕ, min, zero, suc, ◌+◌, ◌*◌, ◌<◌, ◌≤◌, ◌^◌, Bool, true, nat_lt, List, [], ◌∷◌, length, take, get_or, Some, None, refl, subst, arith, inl, inr, length-take}
use Rattle.std.specs.List.{list_all}
use Rattle.std.specs.Char.{digit_value}
use Rattle.std.specs.Str.Parse.{AllDigits, digits_value}
use Rattle.std.proofs.lemmas.Int.Digits.{digits_value-lt, digits_value_more, digits_more}
use Rattle.std.proofs.lemmas.Bool.{and_parts, cases_Bool}
use Rattle.std.proofs.lemmas.Bool.Decides.{nat_tests}
use Rattle.std.proofs.Math.Nat.{pow-le-pow_left, pow-le-pow_right}
use Rattle.watch_report.specs.Fields.{is_numeral, number_field}

abbrev pub is_digit : ℕ → ℕ → Bool
is_digit radix c = nat_lt (digit_value c) radix

pub all_digits_test : (radix : ℕ) (ds : List ℕ) → AllDigits radix ds → list_all (is_digit radix) ds ≡ true
all_digits_test radix [] h = refl
all_digits_test radix (c ∷ cs) h = let rest = all_digits_test radix cs h.1 in let first : digit_value c < radix = h.0 in grind (arith, nat_tests)

pub all_digits_from_test : (radix : ℕ) (ds : List ℕ) → list_all (is_digit radix) ds ≡ true → AllDigits radix ds
all_digits_from_test radix [] h = tt
all_digits_from_test radix (c ∷ cs) h =
    let parts = and_parts (is_digit radix c) (list_all (is_digit radix) cs) h in
    let first : nat_lt (digit_value c) radix ≡ true = parts.0 in
    (grind (arith, nat_tests), all_digits_from_test radix cs parts.1)

-- a digit among digits
pub digit_below : (radix : ℕ) (ds : List ℕ) (i : ℕ) → AllDigits radix ds → i < length ds → digit_value (get_or ds i 0) < radix
digit_below radix [] i h less = absurd (omega arith)
digit_below radix (c ∷ cs) zero h less = h.0
digit_below radix (c ∷ cs) (suc i) h less = digit_below radix cs i h.1 (omega arith)

numeral_digits : (radix : ℕ) (ds : List ℕ) → is_numeral radix ds ≡ true → AllDigits radix ds
numeral_digits radix ds h = all_digits_from_test radix ds (and_parts _ _ h).1

-- where one is no digit they are no number
pub no_number_from : (radix : ℕ) (ds : List ℕ) (i : ℕ) → i < length ds → ¬ (digit_value (get_or ds i 0) < radix) → number_field radix ds ≡ None
no_number_from radix ds i less h = elim (cases_Bool (is_numeral radix ds)) [
  | inl holds ↦ absurd (h (digit_below radix ds i (numeral_digits radix ds holds) less))
  | inr fails ↦ rw fails refl
]

pub number_field-numeral : (radix : ℕ) (ds : List ℕ) → 0 < length ds → length ds ≤ 16 → AllDigits radix ds → number_field radix ds ≡ Some (digits_value radix ds)
number_field-numeral radix ds some short h = rw (numeral radix ds some short (all_digits_test radix ds h)) refl
  where
    numeral : (radix : ℕ) (ds : List ℕ) → 0 < length ds → length ds ≤ 16 → list_all (is_digit radix) ds ≡ true → is_numeral radix ds ≡ true
    numeral radix ds some short h = grind (arith, nat_tests)

-- 16 digits write less than 2^64
pub small_number : (radix : ℕ) (ds : List ℕ) → radix ≤ 16 → length ds ≤ 16 → AllDigits radix ds → digits_value radix ds < 2 ^ 64
small_number radix ds small short h =
    let below : digits_value radix ds < radix ^ length ds = digits_value-lt radix ds h in
    let base : radix ^ length ds ≤ 16 ^ length ds = pow-le-pow_left small (length ds) in
    let most : 16 ^ length ds ≤ 16 ^ 16 = pow-le-pow_right (omega arith) short in
    omega (arith, below, base, most)

-- and so each digit more
pub next_small : (radix : ℕ) (ds : List ℕ) (i number digit : ℕ) → radix ≤ 16 → i < 16 → i < length ds → AllDigits radix (take i ds) → number ≡ digits_value radix (take i ds)
    → digit ≡ digit_value (get_or ds i 0) → digit < radix → number * radix + digit < 2 ^ 64
next_small radix ds i number digit small short less h is e below =
    let all = digits_more radix ds i less h (subst (λ d. d < radix) e below) in
    let more : digits_value radix (take (i + 1) ds) ≡ digits_value radix (take i ds) * radix + digit_value (get_or ds i 0) = digits_value_more radix ds i less in
    let fits : digits_value radix (take (i + 1) ds) < 2 ^ 64 = small_number radix (take (i + 1) ds) small (omega (arith, length-take (i + 1) ds)) all in
    rw (is, e, ← more) fits

-- a digit below the radix has its own value
pub small_digit : (value digit small radix : ℕ) → radix ≤ 16 → digit ≡ min value 16 → small ≡ digit → small < radix → digit ≡ value
small_digit value digit small radix most is same below = omega (arith, most, is, same, below)

pub left_fits : (a b : ℕ) → a + b < 2 ^ 64 → a < 2 ^ 64
left_fits a b h = omega arith
