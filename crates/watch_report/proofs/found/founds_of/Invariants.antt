use Rattle.std.proofs.Common.{◌≡◌, ◌++◌, ◌-◌, drop, length}
use Rattle.watch_report.specs.NoteGroups.{founds_of}
use Rattle.watch_report.proofs.found.founds_of.Given as goal

abbrev pub invariant-loop-place : goal.invariant-loop-place
invariant-loop-place l =
    l.founds.items ++ founds_of l.tallies (drop l.place l.begun) (drop l.place l.reaches) ≡ founds_of l.tallies l.begun l.reaches

abbrev pub decreases-loop-place : goal.decreases-loop-place
decreases-loop-place l = length l.begun - l.place
