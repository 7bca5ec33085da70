use Rattle.std.proofs.Common.{◌≡◌, ◌+◌, ◌*◌, ◌<◌, ◌^◌, ap, ◌∙◌, get_or, length, Some, subst, sym, take, arith}
use Rattle.std.specs.Str.Parse.{AllDigits, digits_value}
use Rattle.std.specs.Char.{digit_value}
use Rattle.std.proofs.lemmas.Bool.Decides.{nat_tests}
use Rattle.std.proofs.lemmas.Int.Digits.{digits_more, digits_value_more}
use Rattle.std.proofs.lemmas.List.{take_all}
use Rattle.steps.proofs.NumLemmas.{digits_of-few, left_fits, next_fits, no_number_from, no_small_digit, small_digit}
use Rattle.steps.proofs.numbers.short_number.Goals as goal

pub overflow_mul-number : goal.overflow_mul-number
overflow_mul-number c =
    let digit : c.digit-digit.result ≡ digit_value (get_or c.args.digits.now c.loop-byte.byte-index 0) = small_digit _ _ _ _ c.requires.high c.digit-digit.ensures c.from.ensures c.if-from-radix.false in
    let below : c.digit-digit.result < c.args.radix = subst (λ d. d < c.args.radix) c.from.ensures c.if-from-radix.false in
    let fits : c.loop-byte.number * c.args.radix + c.digit-digit.result < 2 ^ 64 =
    next_fits c.args.radix c.args.longest c.args.digits.now c.loop-byte.byte-index c.loop-byte.number c.digit-digit.result (omega arith) c.requires.fits c.if-digits-longest.false c.loop-byte-test.true c.loop-byte.invariant.digits c.loop-byte.invariant.value digit below in
    rw c.from-in-loop-byte.ensures (record { fits = left_fits _ _ fits })

pub overflow_add-number : goal.overflow_add-number
overflow_add-number c =
    let digit : c.digit-digit.result ≡ digit_value (get_or c.args.digits.now c.loop-byte.byte-index 0) = small_digit _ _ _ _ c.requires.high c.digit-digit.ensures c.from.ensures c.if-from-radix.false in
    let below : c.digit-digit.result < c.args.radix = subst (λ d. d < c.args.radix) c.from.ensures c.if-from-radix.false in
    let fits : c.loop-byte.number * c.args.radix + c.digit-digit.result < 2 ^ 64 =
    next_fits c.args.radix c.args.longest c.args.digits.now c.loop-byte.byte-index c.loop-byte.number c.digit-digit.result (omega arith) c.requires.fits c.if-digits-longest.false c.loop-byte-test.true c.loop-byte.invariant.digits c.loop-byte.invariant.value digit below in
    rw (c.from-in-loop-byte.ensures, c.from-in-loop-byte-2.ensures) (record { fits = fits })

pub loop-byte-preserved : goal.loop-byte-preserved
loop-byte-preserved c =
    let digits = c.args.digits.now in
    let i = c.loop-byte.byte-index in
    let digit : c.digit-digit.result ≡ digit_value (get_or digits i 0) = small_digit _ _ _ _ c.requires.high c.digit-digit.ensures c.from.ensures c.if-from-radix.false in
    let below : digit_value (get_or digits i 0) < c.args.radix = subst (λ d. d < c.args.radix) (c.from.ensures ∙ digit) c.if-from-radix.false in
    let more : digits_value c.args.radix (take (i + 1) digits) ≡ digits_value c.args.radix (take i digits) * c.args.radix + digit_value (get_or digits i 0) = digits_value_more c.args.radix digits i c.loop-byte-test.true in
    record {
      digits = digits_more c.args.radix digits i c.loop-byte-test.true c.loop-byte.invariant.digits below;
      value = rw (c.from-in-loop-byte.ensures, c.from-in-loop-byte-2.ensures, digit, c.loop-byte.invariant.value) (sym more);
    }

pub returns : goal.returns
returns c =
    let digits = c.args.digits.now in
    let kept = c.loop-byte.invariant in
    let all : take c.loop-byte.byte-index digits ≡ digits = take_all _ digits c.loop-byte-test.false in
    let some : 0 < length digits = grind (arith, nat_tests) in
    let value : c.loop-byte.number ≡ digits_value c.args.radix digits = kept.value ∙ ap (digits_value c.args.radix) all in
    ap Some value ∙ sym (digits_of-few c.args.radix c.args.longest digits (omega arith) c.requires.fits some c.if-digits-longest.false (subst (AllDigits c.args.radix) all kept.digits))

pub returns-then-from-radix : goal.returns-then-from-radix
returns-then-from-radix c =
    let none : ¬ (digit_value (get_or c.args.digits.now c.loop-byte.byte-index 0) < c.args.radix) =
    λ less. absurd (omega (arith, less, no_small_digit _ _ _ _ c.requires.high c.digit-digit.ensures c.from.ensures c.if-from-radix.true)) in
    sym (no_number_from c.args.radix c.args.longest c.args.digits.now c.loop-byte.byte-index (omega arith) c.loop-byte-test.true (λ h. none h.0))
