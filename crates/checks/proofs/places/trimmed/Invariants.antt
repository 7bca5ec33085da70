use Rattle.std.proofs.Common.{◌≡◌, length}
use Rattle.checks.specs.Places.{after_blanks}
use Rattle.checks.proofs.places.trimmed.Given as goal

abbrev pub invariant-loop-rest : goal.invariant-loop-rest
invariant-loop-rest l = after_blanks l.rest ≡ after_blanks l.fn.line

abbrev pub decreases-loop-rest : goal.decreases-loop-rest
decreases-loop-rest l = length l.rest
