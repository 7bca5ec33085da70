use Rattle.std.proofs.Common.{length}
use Rattle.checks.proofs.meant.+has_all.Given as goal

abbrev pub decreases-has_all : goal.decreases-has_all
decreases-has_all l = length l.word.now
