use Rattle.std.proofs.Common.{◌≡◌, ◌++◌, ◌-◌, drop, length, map}
use Rattle.watch_causes.specs.KnownFindings.{known_entry}
use Rattle.watch_report.specs.KnownLists.{known_lines}
use Rattle.watch_report.proofs.known_end.push_known_lines.Given as goal

abbrev pub invariant-loop-place : goal.invariant-loop-place
invariant-loop-place l =
    l.text.items ++ known_lines l.form l.file (map known_entry (drop l.place l.entries)) (drop l.place l.counts)
    ≡ l.fn.text.items ++ known_lines l.form l.file (map known_entry l.entries) l.counts

abbrev pub decreases-loop-place : goal.decreases-loop-place
decreases-loop-place l = length l.entries - l.place
