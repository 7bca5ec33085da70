use Rattle.std.proofs.Common.{◌≡◌, ◌≤◌, ◌-◌, ◌++◌, drop, filter, length, take}
use Rattle.std.specs.Prelude.{◌==◌}
use Rattle.std.specs.List.{list_any}
use Rattle.watch_engine.specs.Left.{has_its_root}
use Rattle.watch_engine.proofs.left_spaces.keep_rooted.Given as goal

abbrev pub invariant-loop-at : goal.invariant-loop-at
invariant-loop-at l =
    (l.kept ≤ l.at)
    × (l.stays ≡ list_any (λ r. r == l.asked) l.roots)
    × (take l.kept l.left ++ filter (has_its_root l.roots) (drop l.at l.left) ≡ filter (has_its_root l.roots) l.fn.left)

abbrev pub decreases-loop-at : goal.decreases-loop-at
decreases-loop-at l = length l.left - l.at
