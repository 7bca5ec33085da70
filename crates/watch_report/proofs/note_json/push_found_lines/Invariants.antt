use Rattle.std.proofs.Common.{◌≡◌, ◌++◌, List, drop}
use Rattle.watch_report.specs.NoteObjects.{found_lines}
use Rattle.watch_report.specs.Past.{ArePast}
use Rattle.watch_report.specs.TraceText.{Noted}
use Rattle.watch_report.proofs.note_json.push_found_lines.Given as goal

abbrev pub invariant-loop-found : goal.invariant-loop-found
invariant-loop-found l =
    (records : List Noted) → ArePast records l.past
    → l.text.items ++ found_lines l.file records (drop l.found-index l.founds) ≡ l.fn.text.items ++ found_lines l.file records l.founds
