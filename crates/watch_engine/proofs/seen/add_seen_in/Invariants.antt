use Rattle.std.proofs.Common.{take}
use Rattle.watch_engine.proofs.Gathering.{SeenIn}
use Rattle.watch_engine.specs.View.{view_of}
use Rattle.watch_engine.proofs.seen.add_seen_in.Given as goal

abbrev pub invariant-loop-address : goal.invariant-loop-address
invariant-loop-address g l = SeenIn (view_of l.view) (take l.address-index l.addresses) l.seen.items
