use Rattle.std.proofs.Common.{◌≡◌, ◌≤◌, ℕ, None, false, get_or, length}
use Rattle.watch.specs.Trace.{has_root}
use Rattle.watch_engine.proofs.satps.end_of_root.Given as goal

abbrev pub invariant-loop-end : goal.invariant-loop-end
invariant-loop-end l =
    (l.first ≤ l.end) × (l.end ≤ length l.satps) × ((k : ℕ) → l.end ≤ k → has_root (get_or l.satps k None) l.root ≡ false)

abbrev pub decreases-loop-end : goal.decreases-loop-end
decreases-loop-end l = l.end
