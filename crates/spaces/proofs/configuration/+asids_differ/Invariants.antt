use Rattle.std.proofs.Common.{length}
use Rattle.spaces.proofs.configuration.+asids_differ.Given as goal

abbrev pub decreases-asids_differ : goal.decreases-asids_differ
decreases-asids_differ l = length l.spaces.now
