use Rattle.std.proofs.Common.{◌≡◌, ◌≤◌, ◌<◌, ◌-◌, get_or, length}
use Rattle.watch_tables.specs.declared.leaf.RootLeaf.{RootLeaf}
use Rattle.watch_engine.specs.Seen.{AreAddedUpTo}
use Rattle.watch_engine.specs.View.{view_of}
use Rattle.watch_engine.proofs.seen.add_of_root.Given as goal

abbrev pub invariant-loop-at : goal.invariant-loop-at
invariant-loop-at g l =
    (l.start ≤ l.at) × (l.at < length l.leaves)
    × ((d : RootLeaf) → (get_or l.leaves l.at d).root ≡ l.root)
    × AreAddedUpTo (view_of l.view) l.leaves l.start l.at l.fn.seen.items l.seen.items

abbrev pub decreases-loop-at : goal.decreases-loop-at
decreases-loop-at g l = length l.leaves - l.at
