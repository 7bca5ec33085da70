-- Digits read from the left, in the words of `specs/Num.antt`.
use Rattle.std.proofs.Common.{◌≡◌, ℕ, zero, suc, ◌+◌, ◌*◌, ◌<◌, ◌≤◌, ◌^◌, Bool, true, false, nat_lt, min, nat_le, List, [], ◌∷◌, length, length-take, take, get_or, Some, None, refl, subst, arith, inl, inr}
use Rattle.std.specs.List.{list_all}
use Rattle.std.specs.Char.{digit_value}
use Rattle.std.specs.Str.Parse.{AllDigits, IsNumeral, digits_value}
use Rattle.std.proofs.lemmas.Int.Digits.{digits_more, digits_value-lt, digits_value_more}
use Rattle.std.proofs.Math.Nat.{pow-le-pow_right}
use Rattle.std.proofs.lemmas.Str.Parse.{digits_value-take-le}
use Rattle.std.proofs.lemmas.Bool.{and_parts, cases_Bool}
use Rattle.std.proofs.lemmas.Bool.Decides.{nat_tests}
use Rattle.steps.specs.Num.{is_number, digits_of}

abbrev pub is_digit : ℕ → ℕ → Bool
is_digit radix c = nat_lt (digit_value c) radix

pub all_digits_test : (radix : ℕ) (ds : List ℕ) → AllDigits radix ds → list_all (is_digit radix) ds ≡ true
all_digits_test radix [] h = refl
all_digits_test radix (c ∷ cs) h = let rest = all_digits_test radix cs h.1 in let first : digit_value c < radix = h.0 in grind (arith, nat_tests)

pub all_digits_from_test : (radix : ℕ) (ds : List ℕ) → list_all (is_digit radix) ds ≡ true → AllDigits radix ds
all_digits_from_test radix [] h = tt
all_digits_from_test radix (c ∷ cs) h =
    let parts = and_parts (is_digit radix c) (list_all (is_digit radix) cs) h in
    let first : nat_lt (digit_value c) radix ≡ true = parts.0 in
    (grind (arith, nat_tests), all_digits_from_test radix cs parts.1)

pub number_test : (radix longest : ℕ) (ds : List ℕ) → IsNumeral radix ds → length ds ≤ longest → digits_value radix ds < 2 ^ 64 → is_number radix longest ds ≡ true
number_test radix longest ds h short small =
    let digits = all_digits_test radix ds h.1 in let some : 0 < length ds = h.0 in grind (arith, nat_tests)

pub number_from_test : (radix longest : ℕ) (ds : List ℕ) → is_number radix longest ds ≡ true → IsNumeral radix ds × (digits_value radix ds < 2 ^ 64)
number_from_test radix longest ds h =
    let parts = and_parts _ _ h in
    let front = and_parts _ _ parts.0 in
    let back = and_parts _ _ parts.1 in
    let some : nat_lt 0 (length ds) ≡ true = front.0 in
    let small : nat_lt (digits_value radix ds) (2 ^ 64) ≡ true = back.1 in
    (((grind (arith, nat_tests)), all_digits_from_test radix ds back.0), grind (arith, nat_tests))

not_number : (radix longest : ℕ) (ds : List ℕ) → ¬ (IsNumeral radix ds × (digits_value radix ds < 2 ^ 64)) → is_number radix longest ds ≡ false
not_number radix longest ds h = elim (cases_Bool (is_number radix longest ds)) [ inl holds ↦ absurd (h (number_from_test radix longest ds holds)) | inr fails ↦ fails ]

-- a digit among digits
digit_below : (radix : ℕ) (ds : List ℕ) (i : ℕ) → AllDigits radix ds → i < length ds → digit_value (get_or ds i 0) < radix
digit_below radix [] i h less = absurd (omega arith)
digit_below radix (c ∷ cs) zero h less = h.0
digit_below radix (c ∷ cs) (suc i) h less = digit_below radix cs i h.1 (omega arith)

-- where one is no digit, or the number so far is too large, they are no number
pub no_number_from : (radix longest : ℕ) (ds : List ℕ) (i : ℕ) → 1 ≤ radix → i < length ds
    → ¬ ((digit_value (get_or ds i 0) < radix) × (digits_value radix (take i ds) * radix + digit_value (get_or ds i 0) < 2 ^ 64)) → digits_of radix longest ds ≡ None
no_number_from radix longest ds i some less h =
    rw (not_number radix longest ds (λ p. h (digit_below radix ds i p.0.1 less, omega (arith, p.1, digits_value_more radix ds i less, digits_value-take-le radix ds (i + 1) some))))

pub digits_of-numeral : (radix longest : ℕ) (ds : List ℕ) → IsNumeral radix ds → length ds ≤ longest → digits_value radix ds < 2 ^ 64 → digits_of radix longest ds ≡ Some (digits_value radix ds)
digits_of-numeral radix longest ds h short small = rw (number_test radix longest ds h short small)

-- ---- digits so few that each number of them fits

few_fit : (radix longest : ℕ) (ds : List ℕ) → 1 ≤ radix → radix ^ longest ≤ 2 ^ 64 → length ds ≤ longest → AllDigits radix ds → digits_value radix ds < 2 ^ 64
few_fit radix longest ds some fits short h =
    let below : digits_value radix ds < radix ^ length ds = digits_value-lt radix ds h in
    let most : radix ^ length ds ≤ radix ^ longest = pow-le-pow_right some short in
    omega (arith, below, most, fits)

pub next_fits : (radix longest : ℕ) (ds : List ℕ) (i number digit : ℕ) → 1 ≤ radix → radix ^ longest ≤ 2 ^ 64 → length ds ≤ longest → i < length ds → AllDigits radix (take i ds)
    → number ≡ digits_value radix (take i ds) → digit ≡ digit_value (get_or ds i 0) → digit < radix → number * radix + digit < 2 ^ 64
next_fits radix longest ds i number digit some fits short less h is e below =
    let all = digits_more radix ds i less h (subst (λ d. d < radix) e below) in
    let more : digits_value radix (take (i + 1) ds) ≡ digits_value radix (take i ds) * radix + digit_value (get_or ds i 0) = digits_value_more radix ds i less in
    let fit : digits_value radix (take (i + 1) ds) < 2 ^ 64 = few_fit radix longest (take (i + 1) ds) some fits (omega (arith, length-take (i + 1) ds)) all in
    rw (is, e, ← more) fit

pub digits_of-few : (radix longest : ℕ) (ds : List ℕ) → 1 ≤ radix → radix ^ longest ≤ 2 ^ 64 → 0 < length ds → length ds ≤ longest → AllDigits radix ds → digits_of radix longest ds ≡ Some (digits_value radix ds)
digits_of-few radix longest ds least fits some short h = digits_of-numeral radix longest ds (some, h) short (few_fit radix longest ds least fits short h)

-- a digit below the radix has its own value
pub small_digit : (value digit small radix : ℕ) → radix ≤ 16 → digit ≡ min value 16 → small ≡ digit → small < radix → digit ≡ value
small_digit value digit small radix most is same below = omega (arith, most, is, same, below)

pub no_small_digit : (value digit small radix : ℕ) → radix ≤ 16 → digit ≡ min value 16 → small ≡ digit → radix ≤ small → radix ≤ value
no_small_digit value digit small radix most is same above = omega (arith, most, is, same, above)

pub left_fits : (a b : ℕ) → a + b < 2 ^ 64 → a < 2 ^ 64
left_fits a b h = omega arith

-- 19 decimal digits are no more than 20
pub one_digit_less : (ds : List ℕ) → length ds < 20 → digits_of 10 19 ds ≡ digits_of 10 20 ds
one_digit_less ds h =
    let shorter : nat_le (length ds) 19 ≡ true = grind (arith, nat_tests) in
    let short : nat_le (length ds) 20 ≡ true = grind (arith, nat_tests) in
    rw (shorter, short) refl
