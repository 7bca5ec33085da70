use Rattle.std.proofs.Common.{◌≡◌, ◌≤◌, ◌<◌, ◌-◌, ℕ, false, get_or}
use Rattle.watch_engine.specs.declared.left.Left.{Left}
use Rattle.watch_engine.specs.Left.{is_of}
use Rattle.watch_engine.proofs.left_spaces.first_of.Given as goal

abbrev pub invariant-loop-at : goal.invariant-loop-at
invariant-loop-at l =
    (l.start ≤ l.at) × (l.at ≤ l.end)
    × ((k : ℕ) (d : Left) → l.start ≤ k → k < l.at → is_of l.hart l.asid (get_or l.left k d) ≡ false)

abbrev pub decreases-loop-at : goal.decreases-loop-at
decreases-loop-at l = l.end - l.at
