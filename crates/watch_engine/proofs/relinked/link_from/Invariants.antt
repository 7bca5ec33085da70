use Rattle.std.proofs.Common.{◌≡◌, length, map, take}
use Rattle.watch_engine.specs.Chains.{AreChained}
use Rattle.watch_engine.specs.Keys.{key_of}
use Rattle.watch_engine.proofs.relinked.link_from.Given as goal

abbrev pub invariant-loop-place : goal.invariant-loop-place
invariant-loop-place l = record {
  keys : take l.place l.keys ≡ map (key_of l.by) (take l.place l.places);
  chained : AreChained (length l.fn.heads) (take l.place l.keys) l.links l.heads;
}
