use Rattle.std.proofs.Common.{length, take}
use Rattle.watch_engine.specs.Chains.{AreChained}
use Rattle.watch_engine.proofs.chains.link_all.Given as goal

abbrev pub invariant-loop-place : goal.invariant-loop-place
invariant-loop-place l = AreChained (length l.fn.heads) (take l.place l.keys) l.links l.heads
