-- The relations of `specs/Grammar.antt` are what the functions find.
use Rattle.std.proofs.Common.{◌≡◌, ℕ, ◌^◌, ◌<◌, ◌≤◌, Bool, true, false, cond, nat_eq, List, [], ◌∷◌, ◌++◌, length, drop, codes, Some, nat_le, subst, refl, sym, ◌∙◌, arith, inl, inr}
use Rattle.std.specs.List.{starts_with}
use Rattle.std.specs.Char.{digit_value}
use Rattle.std.specs.Str.Parse.{IsNumeral, digits_value}
use Rattle.std.proofs.lemmas.Int.Digits.{digits_value-lt}
use Rattle.std.proofs.Math.Nat.{pow-le-pow_right}
use Rattle.std.proofs.Math.Bool.{and-false}
use Rattle.std.proofs.lemmas.Bool.{and_parts, eqb-true, false≢true}
use Rattle.std.proofs.lemmas.Bool.Decides.{eqb_tells, nat_tests}
use Rattle.std.proofs.lemmas.Option.{cond_some, same_Some}
use Rattle.steps.specs.Num.{digits_of, is_number, num_of}
use Rattle.steps.specs.Grammar.{WritesHex, WritesDecimal, WritesNumber}
use Rattle.steps.proofs.NumLemmas.{digits_of-numeral, number_from_test}

hex_small : (ds : List ℕ) → IsNumeral 16 ds → length ds ≤ 16 → digits_value 16 ds < 2 ^ 64
hex_small ds h short =
    let below : digits_value 16 ds < 16 ^ length ds = digits_value-lt 16 ds h.1 in
    let most : 16 ^ length ds ≤ 16 ^ 16 = pow-le-pow_right {n = 16} (omega arith) short in
    omega (arith, below, most)

pub num_of-hex : (text : List ℕ) (n : ℕ) → WritesHex text n → num_of text ≡ Some n
num_of-hex text n h = rw (h.text_is, h.value) (digits_of-numeral 16 16 h.digits h.numeral h.short (hex_small h.digits h.numeral h.short))

not_x : (b : ℕ) → digit_value b < 10 → nat_eq 120 b ≡ false
not_x b h = elim (eqb_tells 120 b) [ inl e ↦ (let bad : digit_value 120 < 10 = subst (λ x. digit_value x < 10) (sym e.1) h in absurd (omega arith)) | inr e ↦ e.0 ]

-- a decimal numeral does not begin with `0x`
not_hex : (text : List ℕ) → IsNumeral 10 text → starts_with nat_eq text (codes "0x") ≡ false
not_hex [] h = refl
not_hex (a ∷ []) h = and-false _
not_hex (a ∷ b ∷ text) h = rw (not_x b h.1.1.0) (and-false _)

pub num_of-decimal : (text : List ℕ) (n : ℕ) → WritesDecimal text n → num_of text ≡ Some n
num_of-decimal text n h = rw (not_hex text h.numeral, h.value) (digits_of-numeral 10 20 text h.numeral h.short h.small)

pub num_of-writes : (text : List ℕ) (n : ℕ) → WritesNumber text n → num_of text ≡ Some n
num_of-writes text n (inl h) = num_of-hex text n h
num_of-writes text n (inr h) = num_of-decimal text n h

-- a text writes at most one number
pub one_number_each : (text : List ℕ) (m n : ℕ) → WritesNumber text m → WritesNumber text n → m ≡ n
one_number_each text m n a b = same_Some _ _ (sym (num_of-writes text m a) ∙ num_of-writes text n b)

le_from_test : (a b : ℕ) → nat_le a b ≡ true → a ≤ b
le_from_test a b h = grind (arith, nat_tests)

is_number_short : (radix longest : ℕ) (ds : List ℕ) → is_number radix longest ds ≡ true → length ds ≤ longest
is_number_short radix longest ds h = le_from_test (length ds) longest (and_parts _ _ (and_parts _ _ h).0).1

two_bytes : (a b : ℕ) (text : List ℕ) → 48 ≡ a → 120 ≡ b → a ∷ b ∷ text ≡ codes "0x" ++ text
two_bytes a b text first second = cc

zero_x : (text : List ℕ) → starts_with nat_eq text (codes "0x") ≡ true → text ≡ codes "0x" ++ drop 2 text
zero_x [] h = cc
zero_x (a ∷ []) h = absurd (false≢true ((and_parts _ false h).1))
zero_x (a ∷ b ∷ text) h = two_bytes a b text (eqb-true 48 a (and_parts _ _ h).0) (eqb-true 120 b (and_parts _ _ (and_parts _ _ h).1).0)

by_prefix : (text : List ℕ) (n : ℕ) (b : Bool) → starts_with nat_eq text (codes "0x") ≡ b → cond b (digits_of 16 16 (drop 2 text)) (digits_of 10 20 text) ≡ Some n → WritesNumber text n
by_prefix text n true is h =
    let found = cond_some (is_number 16 16 (drop 2 text)) _ n h in
    let numeral = number_from_test 16 16 (drop 2 text) found.0 in
    inl (record { digits = drop 2 text; text_is = zero_x text is; numeral = numeral.0; short = is_number_short 16 16 (drop 2 text) found.0; value = sym found.1 })
by_prefix text n false is h =
    let found = cond_some (is_number 10 20 text) _ n h in
    let numeral = number_from_test 10 20 text found.0 in
    inr (record { numeral = numeral.0; short = is_number_short 10 20 text found.0; small = numeral.1; value = sym found.1 })

-- what is found is written so
pub writes-num_of : (text : List ℕ) (n : ℕ) → num_of text ≡ Some n → WritesNumber text n
writes-num_of text n h = by_prefix text n (starts_with nat_eq text (codes "0x")) refl h
