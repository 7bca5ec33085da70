use Rattle.std.proofs.Common.{◌≡◌, length}
use Rattle.watch_engine.specs.Places.{items_of}
use Rattle.watch_engine.proofs.held_list.ItemsIterator.next.Given as goal

abbrev pub invariant-loop-first : goal.invariant-loop-first
invariant-loop-first l = items_of l.self-inside.places.now ≡ l.fn.self

abbrev pub decreases-loop-first : goal.decreases-loop-first
decreases-loop-first l = length l.self-inside.places.now
