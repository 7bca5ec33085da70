use Rattle.std.proofs.Common.{◌≤◌, length, take}
use Rattle.watch_engine.specs.Chains.{AreChained}
use Rattle.watch_engine.proofs.relinked.unlink_from.Given as goal

abbrev pub invariant-loop-place : goal.invariant-loop-place
invariant-loop-place l = record {
  from : l.first ≤ l.place;
  within : l.place ≤ length l.keys;
  chained : AreChained (length l.fn.heads) (take l.place l.keys) l.links l.heads;
}

abbrev pub decreases-loop-place : goal.decreases-loop-place
decreases-loop-place l = l.place
