-- The numbers that are printed read as themselves, and their digits are neither spaces nor notes.
use Rattle.std.proofs.Common.{◌≡◌, ℕ, zero, suc, ◌+◌, ◌*◌, ◌/◌, ◌%◌, ◌<◌, ◌≤◌, ◌^◌, false, List, [], ◌∷◌, length, codes, bytes_eq, Option, Some, None, refl, sym, ap, subst, ◌∙◌, arith, inl, inr}
use Rattle.std.specs.Char.{digit_value}
use Rattle.std.specs.Fmt.{decimal, digit_glyph, digits, digits_onto}
use Rattle.std.specs.List.{AllByRecursion}
use Rattle.std.specs.Str.Parse.{AllDigits, IsNumeral, digits_value}
use Rattle.std.proofs.Math.Nat.{pow-suc}
use Rattle.std.proofs.lemmas.Bool.{cases_Bool, cases_lt, lt-ltb, ne_eqb}
use Rattle.std.proofs.lemmas.Fmt.{decimal_is_IsNumeral, digits_is_IsNumeral, length-decimal-le}
use Rattle.std.proofs.lemmas.Slice.Eq.{bytes_eq-Decides}
use Rattle.pte.specs.declared.scheme.Scheme.{Scheme}
use Rattle.pte.specs.declared.scheme.Scheme.TheVariants.{Sv39, Sv48}
use Rattle.watch.specs.declared.trace.AddressRange.{AddressRange}
use Rattle.watch.specs.declared.trace.Space.{Space}
use Rattle.watch_report.specs.Fields.{hart_field, hexadecimal_field, is_separator, number_field, optional_field}
use Rattle.watch_report.specs.ReadBack.{FitsAsidOrNone, IsRangeOrNone, FitsSatpOrNone, FitsWord, FitsWordOrNone}
use Rattle.watch_report.specs.RecordLines.{optional_text, satp_word, range_size, range_start}
use Rattle.watch_report.specs.Records.{asid_field, claim_range, fence_range, satp_in}
use Rattle.watch_report.specs.TraceLines.{begins_note}
use Rattle.watch_report.specs.Warnings.{hexadecimal}
use Rattle.watch_report.proofs.Hexadecimal.{first_digit, none_written, other_digit}
use Rattle.watch_report.proofs.Numerals.{number_field-numeral}

-- ---- what no field of a record has

abbrev pub IsPlainByte : ℕ → Type 0
IsPlainByte c = (is_separator c ≡ false) × (begins_note c ≡ false)

abbrev pub IsPlain : List ℕ → Type 0
IsPlain field = AllByRecursion IsPlainByte field

plain_digit : (radix c : ℕ) → radix ≤ 16 → digit_value c < radix → IsPlainByte c
plain_digit radix c small h =
    let space : (c ≡ 32 → ⊥) = λ e. (let bad : digit_value 32 < radix = subst (λ (x : ℕ). digit_value x < radix) e h in omega arith) in
    let at : (c ≡ 64 → ⊥) = λ e. (let bad : digit_value 64 < radix = subst (λ (x : ℕ). digit_value x < radix) e h in omega arith) in
    let number : (c ≡ 35 → ⊥) = λ e. (let bad : digit_value 35 < radix = subst (λ (x : ℕ). digit_value x < radix) e h in omega arith) in
    (ne_eqb c 32 space, rw (ne_eqb c 64 at) (ne_eqb c 35 number))

pub plain_digits : (radix : ℕ) (ds : List ℕ) → radix ≤ 16 → AllDigits radix ds → IsPlain ds
plain_digits radix [] small h = tt
plain_digits radix (c ∷ cs) small h = (plain_digit radix c small h.0, plain_digits radix cs small h.1)

-- ---- hexadecimal numbers

numeral : (n : ℕ) → FitsWord n → IsNumeral 16 (digits 16 false n) × (digits_value 16 (digits 16 false n) ≡ n)
numeral n h = digits_is_IsNumeral 16 false (omega arith) (omega arith) n (omega arith)

short_onto : (k j n : ℕ) (written : List ℕ) → n < 16 ^ suc j → length (digits_onto k 16 false n written) ≤ suc j + length written
short_onto zero j n written h = omega arith
short_onto (suc k) zero n written h =
    let one : 16 ^ suc zero ≡ 16 = refl in
    rw (first_digit n written k (omega arith)) (omega arith)
short_onto (suc k) (suc j) n written h = elim (cases_lt (n / 16) 1) [
  | inl last ↦ rw (first_digit n written k (omega arith)) (omega arith)
  | inr more ↦ (
      let step : 16 ^ suc (suc j) ≡ 16 ^ suc j * 16 = pow-suc 16 (suc j) in
      let rest = short_onto k j (n / 16) (digit_glyph false (n % 16) ∷ written) (omega (arith, step)) in
      rw (other_digit n written k (λ e. omega arith)) (omega (arith, rest))
      )
]

short_digits : (n : ℕ) → FitsWord n → length (digits 16 false n) ≤ 16
short_digits n h = subst (λ (l : List ℕ). length l ≤ 16) (none_written n) (omega (arith, short_onto 64 15 n [] (omega arith)))

pub reads_number : (n : ℕ) → FitsWord n → hexadecimal_field (hexadecimal n) ≡ Some n
reads_number n h =
    let is = numeral n h in
    number_field-numeral 16 (digits 16 false n) is.0.0 (short_digits n h) is.0.1 ∙ ap Some is.1

pub plain_number : (n : ℕ) → FitsWord n → IsPlain (hexadecimal n)
plain_number n h = plain_digits 16 (digits 16 false n) (omega arith) (numeral n h).0.1

-- ---- harts

pub reads_hart : (harts hart : ℕ) → harts ≤ 64 → hart < harts → hart_field harts (decimal hart) ≡ Some hart
reads_hart harts hart most h =
    let is = decimal_is_IsNumeral hart (omega arith) in
    let short : length (decimal hart) ≤ 16 = length-decimal-le 16 hart (omega arith) (omega arith) (omega arith) in
    let number : number_field 10 (decimal hart) ≡ Some hart = number_field-numeral 10 (decimal hart) is.0.0 short is.0.1 ∙ ap Some is.1 in
    rw (number, lt-ltb hart harts h) refl

pub plain_hart : (harts hart : ℕ) → harts ≤ 64 → hart < harts → IsPlain (decimal hart)
plain_hart harts hart most h = plain_digits 10 (decimal hart) (omega arith) (decimal_is_IsNumeral hart (omega arith)).0.1

-- ---- numbers or `-`

no_dash : (n : ℕ) → FitsWord n → bytes_eq (hexadecimal n) (codes "-") ≡ false
no_dash n h = elim (cases_Bool (bytes_eq (hexadecimal n) (codes "-"))) [
  | inl holds ↦ absurd (
      let same : hexadecimal n ≡ codes "-" = (bytes_eq-Decides (hexadecimal n) (codes "-")).0 holds in
      let bad : ◌≡◌ {A = Option ℕ} None (Some n) = sym (ap hexadecimal_field same) ∙ reads_number n h in
      cc
      )
  | inr fails ↦ fails
]

pub reads_optional : (o : Option ℕ) → FitsWordOrNone o → optional_field (optional_text o) ≡ Some o
reads_optional None h = refl
reads_optional (Some n) h = rw (no_dash n h, reads_number n h) refl

pub plain_optional : (o : Option ℕ) → FitsWordOrNone o → IsPlain (optional_text o)
plain_optional None h = ((refl, refl), tt)
plain_optional (Some n) h = plain_number n h

asid_word : (o : Option ℕ) → FitsAsidOrNone o → FitsWordOrNone o
asid_word None h = tt
asid_word (Some asid) h = omega arith

pub reads_asid : (o : Option ℕ) → FitsAsidOrNone o → asid_field (optional_text o) ≡ Some o
reads_asid None h = refl
reads_asid (Some asid) h = rw (reads_optional (Some asid) (asid_word (Some asid) h), lt-ltb asid (2 ^ 16) h) refl

pub plain_asid : (o : Option ℕ) → FitsAsidOrNone o → IsPlain (optional_text o)
plain_asid o h = plain_optional o (asid_word o h)

-- ---- satp

pub small_satp : (scheme : Scheme) (space : Option Space) → FitsSatpOrNone space → FitsWord (satp_word scheme space)
small_satp scheme None h = omega arith
small_satp Sv39 (Some space) h = omega (arith, h.0, h.1)
small_satp Sv48 (Some space) h = omega (arith, h.0, h.1)

parts : (mode asid root : ℕ) → root < 2 ^ 44 → asid < 2 ^ 16 → (let satp = mode * 2 ^ 60 + asid * 2 ^ 44 + root % 2 ^ 44 in (satp / 2 ^ 60 ≡ mode) × (satp % 2 ^ 44 ≡ root) × (satp / 2 ^ 44 % 2 ^ 16 ≡ asid))
parts mode asid root h k = (omega arith, omega arith, omega arith)

pub reads_satp : (scheme : Scheme) (space : Option Space) → FitsSatpOrNone space → satp_in scheme (satp_word scheme space) ≡ Some space
reads_satp scheme None h = refl
reads_satp Sv39 (Some space) h = let p = parts 8 space.asid space.root h.0 h.1 in rw (p.0, p.1, p.2) refl
reads_satp Sv48 (Some space) h = let p = parts 9 space.asid space.root h.0 h.1 in rw (p.0, p.1, p.2) refl

-- ---- ranges

pub reads_fence_range : (range : Option AddressRange) → IsRangeOrNone fence_range range → fence_range (range_start range) (range_size range) ≡ range
reads_fence_range None h = refl
reads_fence_range (Some range) h = h.2

pub reads_claim_range : (range : Option AddressRange) → IsRangeOrNone claim_range range → claim_range (range_start range) (range_size range) ≡ range
reads_claim_range None h = refl
reads_claim_range (Some range) h = h.2

pub small_start : (read : ℕ → ℕ → Option AddressRange) (range : Option AddressRange) → IsRangeOrNone read range → FitsWord (range_start range)
small_start read None h = omega arith
small_start read (Some range) h = h.0

pub small_size : (read : ℕ → ℕ → Option AddressRange) (range : Option AddressRange) → IsRangeOrNone read range → FitsWord (range_size range)
small_size read None h = omega arith
small_size read (Some range) h = h.1
