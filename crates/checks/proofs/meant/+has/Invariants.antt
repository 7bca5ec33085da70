use Rattle.std.proofs.Common.{length}
use Rattle.checks.proofs.meant.+has.Given as goal

abbrev pub decreases-has : goal.decreases-has
decreases-has l = length l.word.now
