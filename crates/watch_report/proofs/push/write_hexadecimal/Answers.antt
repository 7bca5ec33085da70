use Rattle.std.proofs.Common.{◌≡◌, ℕ, suc, ◌+◌, ◌-◌, ◌/◌, ◌%◌, drop_of_length-le, false, ◌∷◌, drop, ap, sym, ◌∙◌, arith, length-set}
use Rattle.std.specs.Fmt.{digit_glyph, digits_onto}
use Rattle.watch_report.proofs.Hexadecimal.{first_digit, none_written, other_digit, room_left, written_before}
use Rattle.watch_report.proofs.push.write_hexadecimal.Goals as goal

pub loop-rest-init : goal.loop-rest-init
loop-rest-init c = record {
  some = omega arith;
  most = omega arith;
  length = c.told-buffer;
  fits = c.ranges.n.fits;
  digits = ap (digits_onto 64 16 false c.args.n) (drop_of_length-le c.args.buffer.now {i = 16} (omega (arith, c.told-buffer))) ∙ none_written c.args.n;
}

pub loop-rest-preserved : goal.loop-rest-preserved
loop-rest-preserved c =
    let l = c.loop-rest in
    let is = l.invariant in
    let room = room_left l.rest l.at is.some is.fits in
    let k : ℕ = 48 + (l.at - 1) in
    let next : 48 + l.at ≡ suc k = omega (arith, is.some) in
    let here : drop (l.at - 1) _ ≡ digit_glyph false (l.rest % 16) ∷ drop l.at l.buffer = written_before l.buffer l.at c.digit.result is.some (omega (arith, is.most, is.length)) ∙ ap (λ (x : ℕ). x ∷ drop l.at l.buffer) c.digit.ensures in
    record {
      some = room.1 c.if-rest-eq0.false;
      most = omega (arith, is.most);
      length = length-set l.buffer (l.at - 1) c.digit.result ∙ is.length;
      fits = room.0;
      digits = ap (digits_onto k 16 false (l.rest / 16)) here ∙ sym (other_digit l.rest (drop l.at l.buffer) k c.if-rest-eq0.false) ∙ ap (λ n. digits_onto n 16 false l.rest (drop l.at l.buffer)) (sym next) ∙ is.digits;
    }

pub returns-then-rest-eq0-clause-digits : goal.returns-then-rest-eq0-clause-digits
returns-then-rest-eq0-clause-digits c =
    let l = c.loop-rest in
    let is = l.invariant in
    let k : ℕ = 48 + (l.at - 1) in
    let next : 48 + l.at ≡ suc k = omega (arith, is.some) in
    let here : drop (l.at - 1) _ ≡ digit_glyph false (l.rest % 16) ∷ drop l.at l.buffer = written_before l.buffer l.at c.digit.result is.some (omega (arith, is.most, is.length)) ∙ ap (λ (x : ℕ). x ∷ drop l.at l.buffer) c.digit.ensures in
    here ∙ sym (first_digit l.rest (drop l.at l.buffer) k c.if-rest-eq0.true) ∙ ap (λ n. digits_onto n 16 false l.rest (drop l.at l.buffer)) (sym next) ∙ is.digits
