use Rattle.std.proofs.Common.{List, take}
use Rattle.std.specs.Prelude.{reverse}
use Rattle.watch_report.specs.GroupsSoFar.{AreGroups}
use Rattle.watch_report.specs.Past.{ArePast}
use Rattle.watch_report.specs.TraceText.{Noted, note_at}
use Rattle.watch_report.proofs.note_groups.grouped.Given as goal

abbrev pub invariant-loop-found : goal.invariant-loop-found
invariant-loop-found l =
    (records : List Noted) → ArePast records l.past
    → AreGroups (note_at records) (reverse (take l.found-index l.founds)) l.groups
