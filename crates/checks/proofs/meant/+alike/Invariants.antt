use Rattle.std.proofs.Common.{length}
use Rattle.checks.proofs.meant.+alike.Given as goal

abbrev pub decreases-alike : goal.decreases-alike
decreases-alike l = length l.names.now
