use Rattle.std.proofs.Common.{length}
use Rattle.checks.proofs.meant.+push_small.Given as goal

abbrev pub decreases-push_small : goal.decreases-push_small
decreases-push_small l = length l.word.now
