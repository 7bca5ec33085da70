use Rattle.std.proofs.Common.{◌≡◌, ◌≤◌, drop, false, length}
use Rattle.std.specs.List.{list_any}
use Rattle.checks.specs.Notes.{is_map}
use Rattle.checks.proofs.notes.up_to_last_map.Given as goal

abbrev pub invariant-loop-count : goal.invariant-loop-count
invariant-loop-count l = (list_any is_map (drop l.count l.events) ≡ false) × (l.count ≤ length l.events)

abbrev pub decreases-loop-count : goal.decreases-loop-count
decreases-loop-count l = l.count
