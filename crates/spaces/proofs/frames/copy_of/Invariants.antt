use Rattle.std.proofs.Common.{◌≡◌, take}
use Rattle.spaces.proofs.frames.copy_of.Given as goal

abbrev pub invariant-loop-spare : goal.invariant-loop-spare
invariant-loop-spare l = l.copy.items ≡ take l.spare-index l.spares
