use Rattle.std.proofs.Common.{◌≡◌, List, take}
use Rattle.std.specs.Prelude.{map}
use Rattle.watch_report.specs.declared.found.Found.{Found}
use Rattle.watch_report.specs.GroupsSoFar.{AreGroups}
use Rattle.watch_report.specs.NoteGroups.{group_by}
use Rattle.watch_report.specs.Past.{ArePast}
use Rattle.watch_report.specs.TraceText.{Noted, note_at}
use Rattle.watch_report.proofs.note_groups.Groups.all.Given as goal

abbrev pub invariant-loop-since : goal.invariant-loop-since
invariant-loop-since l =
    (records : List Noted) (before : List Found) → ArePast records l.past → AreGroups (note_at records) before l.self
    → l.groups.items ≡ map (group_by (note_at records) before) (take l.since-index l.self.firsts.items)
