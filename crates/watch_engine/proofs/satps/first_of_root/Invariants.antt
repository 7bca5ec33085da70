use Rattle.std.proofs.Common.{◌≡◌, ◌<◌, ◌≤◌, ◌-◌, ℕ, None, false, get_or, length}
use Rattle.watch.specs.Trace.{has_root}
use Rattle.watch_engine.proofs.satps.first_of_root.Given as goal

abbrev pub invariant-loop-at : goal.invariant-loop-at
invariant-loop-at l =
    (l.at ≤ length l.satps) × ((k : ℕ) → k < l.at → has_root (get_or l.satps k None) l.root ≡ false)

abbrev pub decreases-loop-at : goal.decreases-loop-at
decreases-loop-at l = length l.satps - l.at
