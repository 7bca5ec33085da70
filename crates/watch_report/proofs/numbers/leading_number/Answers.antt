use Rattle.std.proofs.Common.{◌≡◌, ◌+◌, ◌*◌, ◌<◌, ◌^◌, ◌∙◌, get_or, length, subst, sym, take, arith}
use Rattle.std.specs.Str.Parse.{digits_value}
use Rattle.std.specs.Char.{digit_value}
use Rattle.std.proofs.lemmas.Int.Digits.{digits_more, digits_value_more}
use Rattle.watch_report.proofs.Numerals.{left_fits, next_small, small_digit}
use Rattle.watch_report.proofs.numbers.leading_number.Goals as goal

pub overflow_mul-number : goal.overflow_mul-number
overflow_mul-number c =
    let i = c.loop-at.at in
    let digit : c.from-digit.result ≡ digit_value (get_or c.args.text.now i 0) = c.from-digit.ensures ∙ small_digit _ _ _ _ c.requires.high c.digit.ensures c.from-digit.ensures c.if-digit-radix.false in
    let fits : c.loop-at.number * c.args.radix + c.from-digit.result < 2 ^ 64 =
    next_small c.args.radix c.args.text.now i c.loop-at.number c.from-digit.result c.requires.high (omega arith) (omega arith) c.loop-at.invariant.digits c.loop-at.invariant.value digit c.if-digit-radix.false in
    record { fits = left_fits _ _ fits }

pub overflow_add-number : goal.overflow_add-number
overflow_add-number c =
    let i = c.loop-at.at in
    let digit : c.from-digit.result ≡ digit_value (get_or c.args.text.now i 0) = c.from-digit.ensures ∙ small_digit _ _ _ _ c.requires.high c.digit.ensures c.from-digit.ensures c.if-digit-radix.false in
    record { fits = next_small c.args.radix c.args.text.now i c.loop-at.number c.from-digit.result c.requires.high (omega arith) (omega arith) c.loop-at.invariant.digits c.loop-at.invariant.value digit c.if-digit-radix.false }

pub loop-at-preserved : goal.loop-at-preserved
loop-at-preserved c =
    let text = c.args.text.now in
    let i = c.loop-at.at in
    let digit : c.from-digit.result ≡ digit_value (get_or text i 0) = c.from-digit.ensures ∙ small_digit _ _ _ _ c.requires.high c.digit.ensures c.from-digit.ensures c.if-digit-radix.false in
    let below : digit_value (get_or text i 0) < c.args.radix = subst (λ d. d < c.args.radix) digit c.if-digit-radix.false in
    let within : i < length text = omega arith in
    let more : digits_value c.args.radix (take (i + 1) text) ≡ digits_value c.args.radix (take i text) * c.args.radix + digit_value (get_or text i 0) = digits_value_more c.args.radix text i within in
    record {
      digits = digits_more c.args.radix text i within c.loop-at.invariant.digits below;
      value = rw (digit, c.loop-at.invariant.value) (sym more);
    }
