-- The bits of a byte as a set of harts.
use Rattle.std.proofs.Common.{◌≡◌, ◌≢◌, ◌∙◌, sym, ap, refl, ℕ, zero, suc, ◌+◌, ◌*◌, ◌-◌, ◌/◌, ◌%◌, ◌<◌, ◌≤◌, ◌^◌, Bool, true, false, not, ◌&&◌, ◌||◌, set, arith, eqb, w8}
use Rattle.std.proofs.lemmas.Bool.{eqb-true, and_parts}
use Rattle.std.proofs.lemmas.List.{set_past}
use Rattle.std.proofs.lemmas.Bool.Decides.{nat_tests}
use Rattle.std.proofs.lemmas.Nat.{or_lt}
use Rattle.std.proofs.lemmas.Nat.Bits.{bit_at_and, bit_at_not, bit_at-lt, bit_at_set_same, bit_at_set_other, shr_and_one}
use Rattle.std.specs.List.{range_with_len, list_all}
use Rattle.std.specs.Int.{bit_at, bit_not}
use Rattle.std.specs.Prelude.{bit_and, bit_or, min}
use Rattle.shoot.specs.HartSet.{contains, harts_in, byte_of, difference, is_empty}
use Rattle.pte.specs.declared.TheConstants.{MAX_HARTS}
use Rattle.shoot.proofs.HartSets.{by_test, contains_where, get_map_past, where_agree, where_with}

-- ---- tests of all numbers

pub all_pass : (test : ℕ → Bool) (from count : ℕ) → list_all test (range_with_len from count) ≡ true → (n : ℕ) → from ≤ n → n < from + count → test n ≡ true
all_pass test from zero h n above below = absurd (omega arith)
all_pass test from (suc count) h n above below =
    let parts = and_parts (test from) (list_all test (range_with_len (from + 1) count)) h in
    by_test (λ same. test n ≡ true) (eqb from n)
    (λ e. let same : from ≡ n = eqb-true from n e in ap test (sym same) ∙ parts.0)
    (λ e. all_pass test (from + 1) count parts.1 n (next from n e above) (omega arith))
  where
    next : (from n : ℕ) → eqb from n ≡ false → from ≤ n → from + 1 ≤ n
    next from n e above = grind (arith, nat_tests)

pub pass_all : (test : ℕ → Bool) (from count : ℕ) → ((n : ℕ) → from ≤ n → n < from + count → test n ≡ true) → list_all test (range_with_len from count) ≡ true
pass_all test from zero h = refl
pass_all test from (suc count) h =
    rw (h from (omega arith) (omega arith)) (pass_all test (from + 1) count (λ n above below. h n (omega arith) (omega arith)))

-- ---- the byte of a byte's harts

every_byte : list_all (λ byte. eqb (byte_of (harts_in byte)) byte) (range_with_len 0 256) ≡ true
unfolding byte_of
every_byte = refl

-- the byte of the set that a byte stands for is that byte
pub byte_back : (byte : ℕ) → byte < 2 ^ 8 → byte_of (harts_in byte) ≡ byte
byte_back byte below = eqb-true _ _ (all_pass (λ n. eqb (byte_of (harts_in n)) n) 0 256 every_byte byte (omega arith) (omega arith))

-- ---- a byte that is empty, or has a hart

both : Bool → Bool → Bool
both true b = b
both false b = not b

both_same : (a b : Bool) → both a b ≡ true → a ≡ b
unfolding both
both_same true true e = refl
both_same true false e = absurd cc
both_same false true e = absurd cc
both_same false false e = refl

every_empty : list_all (λ byte. both (eqb byte 0) (is_empty (harts_in byte))) (range_with_len 0 256) ≡ true
unfolding both
every_empty = refl

-- only the byte 0 has no hart
pub no_bits : (byte : ℕ) → byte < 2 ^ 8 → eqb byte 0 ≡ is_empty (harts_in byte)
no_bits byte below = both_same _ _ (all_pass (λ n. both (eqb n 0) (is_empty (harts_in n))) 0 256 every_empty byte (omega arith) (omega arith))

-- a hart's bit says whether it is in the set, and no number past them is
bit_is_member : (byte hart : ℕ) → hart < MAX_HARTS → eqb (bit_at byte hart) 1 ≡ contains (harts_in byte) hart
bit_is_member byte hart below = sym (contains_where (λ n. eqb (bit_at byte n) 1) hart below)

pub shifted_bit_is_member : (byte hart : ℕ) → hart < MAX_HARTS → eqb (bit_and (byte / 2 ^ hart) 1) 1 ≡ contains (harts_in byte) hart
shifted_bit_is_member byte hart below = ap (λ bit. eqb bit 1) (shr_and_one byte hart) ∙ bit_is_member byte hart below

pub none_past : (byte hart : ℕ) → MAX_HARTS ≤ hart → contains (harts_in byte) hart ≡ false
none_past byte hart above = get_map_past (λ n. eqb (bit_at byte n) 1) 0 MAX_HARTS hart above

-- ---- a bit that is put in

with_bit : (byte hart n : ℕ) → hart < MAX_HARTS → n < MAX_HARTS
    → eqb (bit_at (bit_or byte (1 * 2 ^ hart % 2 ^ 8)) n) 1 ≡ (eqb hart n || eqb (bit_at byte n) 1)
with_bit byte hart n below within =
    by_test (λ same. eqb (bit_at (bit_or byte (1 * 2 ^ hart % 2 ^ 8)) n) 1 ≡ (same || eqb (bit_at byte n) 1)) (eqb hart n)
    (λ e. rw (sym (eqb-true hart n e), bit_at_set_same w8 byte hart below) refl)
    (λ e. rw (bit_at_set_other w8 byte hart below n (apart e)) refl)
  where
    apart : {a b : ℕ} → eqb a b ≡ false → b ≢ a
    apart e = grind (arith, nat_tests)

pub bit_put : (byte hart : ℕ) → hart < MAX_HARTS → harts_in (bit_or byte (1 * 2 ^ hart % 2 ^ 8)) ≡ set (harts_in byte) hart true
bit_put byte hart below =
    where_agree _ _ (λ n within. with_bit byte hart n below within) ∙ sym (where_with (λ n. eqb (bit_at byte n) 1) hart)

pub still_back : (byte hart : ℕ) → byte < 2 ^ 8
    → byte_of (harts_in (bit_or byte (1 * 2 ^ hart % 2 ^ 8))) ≡ bit_or byte (1 * 2 ^ hart % 2 ^ 8)
still_back byte hart fits =
    let small : 1 * 2 ^ hart % 2 ^ 8 < 2 ^ 8 = omega arith in
    byte_back _ (or_lt 8 byte _ fits small)

pub none_put : (byte hart : ℕ) → MAX_HARTS ≤ hart → harts_in byte ≡ set (harts_in byte) hart true
none_put byte hart above = sym (set_past (harts_in byte) hart true above)

-- ---- the bits of one byte alone

beyond : (a b : ℕ) → a < 2 → b < 2 → eqb (min a (1 - b)) 1 ≡ (eqb a 1 && not (eqb b 1))
beyond zero zero p q = refl
beyond zero (suc zero) p q = refl
beyond (suc zero) zero p q = refl
beyond (suc zero) (suc zero) p q = refl
beyond (suc (suc a)) b p q = absurd (omega arith)
beyond a (suc (suc b)) p q = absurd (omega arith)

pub bits_beyond : (a b : ℕ) → b < 2 ^ 8 → harts_in (bit_and a (bit_not w8 b)) ≡ difference (harts_in a) (harts_in b)
unfolding difference
bits_beyond a b fits =
    where_agree (λ n. eqb (bit_at (bit_and a (bit_not w8 b)) n) 1) (λ n. contains (harts_in a) n && not (contains (harts_in b) n)) (λ n within.
    rw (bit_at_and a (bit_not w8 b) n, bit_at_not w8 b n fits within, sym (bit_is_member a n within), sym (bit_is_member b n within))
    (beyond (bit_at a n) (bit_at b n) (bit_at-lt a n) (bit_at-lt b n)))
