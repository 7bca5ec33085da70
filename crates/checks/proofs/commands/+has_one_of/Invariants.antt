use Rattle.std.proofs.Common.{length}
use Rattle.checks.proofs.commands.+has_one_of.Given as goal

abbrev pub decreases-has_one_of : goal.decreases-has_one_of
decreases-has_one_of l = length l.keys.now
