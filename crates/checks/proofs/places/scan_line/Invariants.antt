use Rattle.std.proofs.Common.{◌≡◌}
use Rattle.checks.proofs.places.scan_line.Given as goal

abbrev pub invariant-loop-byte : goal.invariant-loop-byte
invariant-loop-byte l = l.place.line ≡ l.fn.place.line
