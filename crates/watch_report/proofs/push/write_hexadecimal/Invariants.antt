use Rattle.std.proofs.Common.{◌≡◌, ◌+◌, ◌*◌, ◌^◌, ◌<◌, ◌≤◌, false, length, drop}
use Rattle.std.specs.Fmt.{digits, digits_onto}
use Rattle.watch_report.proofs.push.write_hexadecimal.Given as goal

-- 16 digits are enough, and those that are written follow those that are not
abbrev pub invariant-loop-rest : goal.invariant-loop-rest
invariant-loop-rest l = record {
  some : 0 < l.at;
  most : l.at ≤ 16;
  length : length l.buffer ≡ 16;
  fits : l.rest < 2 ^ (4 * l.at);
  digits : digits_onto (48 + l.at) 16 false l.rest (drop l.at l.buffer) ≡ digits 16 false l.n;
}

abbrev pub decreases-loop-rest : goal.decreases-loop-rest
decreases-loop-rest l = l.at
