use Rattle.std.proofs.Common.{◌≤◌, ◌<◌, ◌-◌, ℕ, get_or, length}
use Rattle.watch_engine.specs.declared.left.Left.{Left}
use Rattle.watch_engine.proofs.left_spaces.end_of_run.Given as goal

abbrev pub invariant-loop-end : goal.invariant-loop-end
invariant-loop-end l =
    (l.start ≤ l.end) × (l.end ≤ length l.left)
    × ((k : ℕ) (d : Left) → k < l.end → k < length l.left → (get_or l.left k d).space.root ≤ l.root)

abbrev pub decreases-loop-end : goal.decreases-loop-end
decreases-loop-end l = length l.left - l.end
