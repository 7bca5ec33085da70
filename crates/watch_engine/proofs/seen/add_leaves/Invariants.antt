use Rattle.std.proofs.Common.{◌≡◌, ◌-◌, drop, length}
use Rattle.watch_engine.specs.Seen.{with_leaves}
use Rattle.watch_engine.specs.View.{view_of}
use Rattle.watch_engine.proofs.seen.add_leaves.Given as goal

abbrev pub invariant-loop-at : goal.invariant-loop-at
invariant-loop-at g l =
    with_leaves (view_of l.view) (drop l.at l.leaves) l.seen.items
    ≡ with_leaves (view_of l.view) l.leaves l.fn.seen.items

abbrev pub decreases-loop-at : goal.decreases-loop-at
decreases-loop-at g l = length l.leaves - l.at
