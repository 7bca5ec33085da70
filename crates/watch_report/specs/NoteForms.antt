-- What is printed at the end of findings and of notes, in each form.
use Rattle.std.specs.Prelude.{ℕ, List, []}
use Rattle.watch_report.specs.declared.cause_line.NumberedTally.{NumberedTally}
use Rattle.watch_report.specs.declared.found.Found.{Found}
use Rattle.watch_report.specs.declared.note_group.NoteGroup.{NoteGroup}
use Rattle.watch_report.specs.declared.options.Form.{Form}
use Rattle.watch_report.specs.declared.options.Form.TheVariants.{Text, Json}
use Rattle.watch_report.specs.NoteLines.{note_lines}
use Rattle.watch_report.specs.NoteObjects.{found_lines, note_objects}
use Rattle.watch_report.specs.TraceText.{Noted}

-- each finding: an object of JSON, and no line
abbrev pub founds_as : Form → List ℕ → List Noted → List Found → List ℕ
founds_as Text file records founds = []
founds_as Json file records founds = found_lines file records founds

-- the notes of a cause; `notes` gives the note of each record
abbrev pub notes_as : Form → List ℕ → (ℕ → List ℕ) → NumberedTally → List NoteGroup → List ℕ
notes_as Text file notes one groups = note_lines notes one.tally.cause.global groups
notes_as Json file notes one groups =
    note_objects file one.number notes one.tally.cause.global groups
