use Rattle.std.proofs.Common.{length}
use Rattle.draw.proofs.tints.Spaces.go_to.Given as goal

abbrev pub decreases-loop-rest : goal.decreases-loop-rest
decreases-loop-rest l = length l.rest
