-- What is kept of the records that were read.
use Rattle.std.specs.Prelude.{List}
use Rattle.watch_report.specs.declared.past.Past.{Past}
use Rattle.watch_report.specs.LineNumbers.{AreLines}
use Rattle.watch_report.specs.NoteTexts.{AreNotes}
use Rattle.watch_report.specs.TraceText.{Noted}

-- these are the notes and the lines of the records
pub record ArePast (records : List Noted) (past : Past) : Type 0 where
  pub notes : AreNotes records past.notes
  pub lines : AreLines records past.lines
