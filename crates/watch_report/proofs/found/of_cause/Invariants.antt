use Rattle.std.proofs.Common.{◌≡◌, take}
use Rattle.watch_report.specs.NoteGroups.{of_cause}
use Rattle.watch_report.proofs.found.of_cause.Given as goal

abbrev pub invariant-loop-found : goal.invariant-loop-found
invariant-loop-found l = l.own.items ≡ of_cause l.number (take l.found-index l.founds)
