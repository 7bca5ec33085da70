use Rattle.std.proofs.Common.{length}
use Rattle.checks.proofs.meant.+is_alike.Given as goal

abbrev pub decreases-is_alike : goal.decreases-is_alike
decreases-is_alike l = length l.word.now
