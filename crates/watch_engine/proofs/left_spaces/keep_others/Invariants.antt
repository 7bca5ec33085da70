use Rattle.std.proofs.Common.{◌≡◌, ◌≤◌, ◌-◌, ◌++◌, Some, drop, filter, length, take}
use Rattle.watch_engine.specs.Left.{is_other}
use Rattle.watch_engine.proofs.left_spaces.keep_others.Given as goal

abbrev pub invariant-loop-at : goal.invariant-loop-at
invariant-loop-at l =
    (l.first ≤ l.at) × (l.kept ≤ l.at) × (l.at ≤ l.end) × (length l.left ≡ length l.fn.left)
    × (drop l.at l.left ≡ drop l.at l.fn.left)
    × (take l.kept l.left ++ filter (is_other l.hart (Some l.space)) (drop l.at l.left) ≡ filter (is_other l.hart (Some l.space)) l.fn.left)

abbrev pub decreases-loop-at : goal.decreases-loop-at
decreases-loop-at l = l.end - l.at
