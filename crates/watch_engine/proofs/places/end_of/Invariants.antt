use Rattle.std.proofs.Common.{◌≡◌, ◌≤◌, length, take}
use Rattle.watch_engine.specs.Places.{items_of}
use Rattle.watch_engine.proofs.places.end_of.Given as goal

abbrev pub invariant-loop-end : goal.invariant-loop-end
invariant-loop-end l = (items_of (take l.end l.places) ≡ items_of l.places) × (l.end ≤ length l.places)

abbrev pub decreases-loop-end : goal.decreases-loop-end
decreases-loop-end l = l.end
