use Rattle.std.proofs.Common.{◌≡◌, ◌++◌, List, drop}
use Rattle.watch_report.specs.NoteLines.{each_note_line}
use Rattle.watch_report.specs.Past.{ArePast}
use Rattle.watch_report.specs.TraceText.{Noted, note_at}
use Rattle.watch_report.proofs.note_lines.push_each.Given as goal

abbrev pub invariant-loop-group : goal.invariant-loop-group
invariant-loop-group l =
    (records : List Noted) → ArePast records l.past
    → l.text.items ++ each_note_line (note_at records) l.global (drop l.group-index l.groups) ≡ l.fn.text.items ++ each_note_line (note_at records) l.global l.groups
