use Rattle.std.proofs.Common.{◌≡◌, ◌+◌, ◌*◌, ◌<◌, ◌^◌, ap, ◌∙◌, get_or, length, Some, subst, sym, take, arith}
use Rattle.std.specs.Str.Parse.{AllDigits, digits_value}
use Rattle.std.specs.Char.{digit_value}
use Rattle.std.proofs.lemmas.Bool.Decides.{nat_tests}
use Rattle.std.proofs.lemmas.Int.Digits.{digits_more, digits_value_more}
use Rattle.std.proofs.lemmas.List.{take_all}
use Rattle.steps.proofs.NumLemmas.{digits_of-numeral, no_number_from}
use Rattle.steps.proofs.numbers.number.Goals as goal

pub loop-digit-preserved : goal.loop-digit-preserved
loop-digit-preserved c =
    let digits = c.args.digits.now in
    let i = c.loop-digit.digit-index in
    let more = digits_value_more c.args.radix digits i c.loop-digit-test.true in
    let is = c.in_ok-number.ensures in
    record {
      digits = digits_more c.args.radix digits i c.loop-digit-test.true c.loop-digit.invariant.digits is.0.0;
      value = cc;
      small = rw is.1 is.0.1;
    }

pub returns : goal.returns
returns c =
    let digits = c.args.digits.now in
    let kept = c.loop-digit.invariant in
    let all : take c.loop-digit.digit-index digits ≡ digits = take_all _ digits c.loop-digit-test.false in
    let some : 0 < length digits = grind (arith, nat_tests) in
    let value : c.loop-digit.number ≡ digits_value c.args.radix digits = kept.value ∙ ap (digits_value c.args.radix) all in
    ap Some value ∙ sym (digits_of-numeral c.args.radix c.args.longest digits (some, subst (AllDigits c.args.radix) all kept.digits) c.if-digits-longest.false (subst (λ n. n < 2 ^ 64) value kept.small))

pub returns-in_err-number : goal.returns-in_err-number
returns-in_err-number c =
    let digits = c.args.digits.now in
    let i = c.loop-digit.digit-index in
    let digit = digit_value (get_or digits i 0) in
    c.from_residual.ensures
    ∙ sym (no_number_from c.args.radix c.args.longest digits i (omega arith) c.loop-digit-test.true
    (λ h. c.in_err-number.ensures (h.0, subst (λ n. n * c.args.radix + digit < 2 ^ 64) (sym c.loop-digit.invariant.value) h.1)))
