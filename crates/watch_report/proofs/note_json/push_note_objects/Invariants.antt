use Rattle.std.proofs.Common.{◌≡◌, ◌++◌, List, drop}
use Rattle.watch_report.specs.NoteObjects.{note_objects}
use Rattle.watch_report.specs.Past.{ArePast}
use Rattle.watch_report.specs.TraceText.{Noted, note_at}
use Rattle.watch_report.proofs.note_json.push_note_objects.Given as goal

abbrev pub invariant-loop-group : goal.invariant-loop-group
invariant-loop-group l =
    (records : List Noted) → ArePast records l.past
    → l.text.items ++ note_objects l.file l.number (note_at records) l.global (drop l.group-index l.groups)
    ≡ l.fn.text.items ++ note_objects l.file l.number (note_at records) l.global l.groups
