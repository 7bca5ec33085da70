use Rattle.std.proofs.Common.{◌≡◌, ◌≤◌, ◌<◌, ◌-◌, get_or, length}
use Rattle.watch_tables.specs.declared.leaf.RootLeaf.{RootLeaf}
use Rattle.watch_engine.specs.Filling.{AreAnswers}
use Rattle.watch_engine.specs.Seen.{AreAddedUpTo}
use Rattle.watch_engine.specs.View.{view_of}
use Rattle.watch_engine.proofs.seen.add_alike.Given as goal

abbrev pub invariant-loop-place : goal.invariant-loop-place
invariant-loop-place g l =
    (l.start ≤ l.at) × (l.at < length l.leaves)
    × ((d : RootLeaf) → (get_or l.leaves l.at d).entry ≡ l.first.entry)
    × AreAnswers (view_of l.view) l.first.entry l.known
    × AreAddedUpTo (view_of l.view) l.leaves l.start l.at l.fn.seen.items l.seen.items

abbrev pub decreases-loop-place : goal.decreases-loop-place
decreases-loop-place g l = length l.leaves - l.at
