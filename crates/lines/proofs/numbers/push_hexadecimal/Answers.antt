use Rattle.std.proofs.Common.{◌≡◌, ◌∙◌, ◌-◌, drop, take, length-drop, sym, subst, take_all, arith}
use Rattle.std.specs.Str.{IsUtf8}
use Rattle.lines.proofs.numbers.push_hexadecimal.Goals as goal

-- digits are text
pub unreachable-requires : goal.unreachable-requires
unreachable-requires c =
    let wrote = c.write_hexadecimal-start in
    let digits = drop wrote.result wrote.new.buffer in
    let whole : take (16 - wrote.result) digits ≡ digits = take_all (16 - wrote.result) digits (omega (arith, length-drop wrote.result wrote.new.buffer, wrote.array_long)) in
    c.in-Err.ensures.cases.0 (subst IsUtf8 (sym (whole ∙ wrote.ensures.digits)) wrote.ensures.text)
