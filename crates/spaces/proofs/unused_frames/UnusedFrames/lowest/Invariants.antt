use Rattle.std.proofs.Common.{◌≡◌, ◌<◌, ◌≤◌, ◌-◌, ℕ, false}
use Rattle.spaces.specs.UnusedFrames.{marked_in}
use Rattle.spaces.proofs.unused_frames.UnusedFrames.lowest.Given as goal

abbrev pub invariant-loop-next : goal.invariant-loop-next
invariant-loop-next l = record {
  low : l.fn.from ≤ l.next;
  none : (m : ℕ) → l.fn.from ≤ m → m < l.next → marked_in l.self-inside.words m ≡ false;
}

abbrev pub decreases-loop-next : goal.decreases-loop-next
decreases-loop-next l = l.to - l.next
