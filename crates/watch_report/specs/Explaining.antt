-- What `explain` tells of a line of a trace.
use Rattle.std.specs.Prelude.{ℕ, Bool, true, false, ◌≡◌, ◌-◌, List, [], ◌∷◌, reverse, take, Option, Some, None, Result, Ok, Err}
use Rattle.watch.specs.declared.trace.Record.{Record}
use Rattle.watch_causes.specs.declared.stories.Part.{Part}
use Rattle.watch_causes.specs.Stories.{IsDueAt, IsStory}
use Rattle.watch_engine.specs.declared.warning.Warning.{Warning}
use Rattle.watch_report.specs.declared.fault.ReportFault.{ReportFault}
use Rattle.watch_report.specs.declared.fault.ReportFault.TheVariants.{Unreadable, Line, Output, BrokenPipe, BrokenPipeAtLine, NoMemory}
use Rattle.watch_report.specs.declared.filter.Filter.{Filter}
use Rattle.watch_report.specs.declared.header.Header.{Header}
use Rattle.watch_report.specs.declared.warning.Trigger.{Trigger}
use Rattle.watch_report.specs.Filters.{AreTakenAt}
use Rattle.watch_report.specs.Orders.{IsInOrder}
use Rattle.watch_report.specs.Output.{WritesAll, WritesFront}
use Rattle.watch_report.specs.StoryTexts.{story_text}
use Rattle.watch_report.specs.TraceText.{Noted, body_of, fault_in, faulty_line, header_of, records_of, trace_of}
use Rattle.watch_report.specs.VerdictLines.{GivesAt, trigger_of}

-- which verdicts are asked for: those at a line of the file that the filter takes
pub record Asked : Type 0 where
  pub file : List ℕ
  pub line : ℕ
  pub filter : Filter

abbrev pub asked_of : List ℕ → ℕ → Filter → Asked
asked_of file line filter = record { file = file; line = line; filter = filter }

-- ---- by the records up to that line

-- in the order of the trace
abbrev pub made_in : List Noted → List Record
made_in records = reverse (trace_of records)

-- the text is the story of a verdict that is due at the newest record: the first that the filter takes
pub record IsTold (asked : Asked) (header : Header) (newest : Noted) (records : List Noted)
    (text : List ℕ) : Type 0 where
  pub trigger : Trigger
  pub acts : trigger_of records newest.made ≡ Some trigger
  pub first : Warning
  pub others : List Warning
  pub taken :
      AreTakenAt asked.filter header.scheme newest.made (trace_of records) (first ∷ others)
  pub order : IsInOrder (first ∷ others)
  pub due : IsDueAt header.scheme (trace_of (newest ∷ records)) first
  pub parts : List Part
  pub story : IsStory header.scheme (made_in (newest ∷ records)) first parts
  pub is : text ≡ story_text asked.file header trigger newest records first parts

-- the line is the newest record, and the text such a story
abbrev pub TellsAt : Asked → Header → List Noted → List ℕ → Type 0
TellsAt asked header [] text = ⊥
TellsAt asked header (newest ∷ records) text =
    (newest.line ≡ asked.line) × IsTold asked header newest records text

-- the line is the newest record, which has a verdict that the filter takes
abbrev pub HasVerdict : Asked → Header → List Noted → Type 0
HasVerdict asked header [] = ⊥
HasVerdict asked header (newest ∷ records) =
    (newest.line ≡ asked.line)
    × GivesAt asked.filter header.scheme newest.made (trace_of records)

-- ---- by the lines

-- the lines after the header up to that of the number
abbrev pub up_to : ℕ → List (List ℕ) → List (List ℕ)
up_to line lines = take (line - 1) lines

abbrev pub Tells : Asked → Result Header (List ℕ) → List (List ℕ) → List ℕ → Type 0
Tells asked (Err first) lines text = ⊥
Tells asked (Ok header) lines text = TellsAt asked header (records_of header lines) text

abbrev pub Gives : Asked → Result Header (List ℕ) → List (List ℕ) → Type 0
Gives asked (Err first) lines = ⊥
Gives asked (Ok header) lines = HasVerdict asked header (records_of header lines)

-- ---- how it ends

-- for what the first line says, and the lines after it up to that one. A story is written, if there is
-- one to tell. Else nothing is: at the first line that has no form, where the reader fails, and where
-- memory runs out too. Where the writer fails, or nobody reads on, a beginning of the story is written
abbrev pub ExplainsBy : Asked → Result Header (List ℕ) → List (List ℕ) → Result Bool ReportFault
    → Option (List ℕ) → Option (List ℕ) → Type 0
ExplainsBy asked said lines (Ok true) old new =
    (faulty_line said lines ≡ None) × WritesAll (Tells asked said lines) old new
ExplainsBy asked said lines (Ok false) old new =
    (faulty_line said lines ≡ None) × ¬ Gives asked said lines × (new ≡ old)
ExplainsBy asked said lines (Err (Line number fault warned)) old new =
    (faulty_line said lines ≡ Some number) × (fault_in said lines number ≡ Some fault)
    × (warned ≡ false) × (new ≡ old)
ExplainsBy asked said lines (Err Unreadable) old new = new ≡ old
ExplainsBy asked said lines (Err NoMemory) old new = new ≡ old
ExplainsBy asked said lines (Err Output) old new =
    (faulty_line said lines ≡ None) × WritesFront (Tells asked said lines) old new
ExplainsBy asked said lines (Err (BrokenPipe warned)) old new =
    (warned ≡ true) × (faulty_line said lines ≡ None)
    × WritesFront (Tells asked said lines) old new
ExplainsBy asked said lines (Err (BrokenPipeAtLine number fault warned)) old new = ⊥

abbrev pub Explains : Asked → List ℕ → Result Bool ReportFault → Option (List ℕ)
    → Option (List ℕ) → Type 0
Explains asked text result old new =
    ExplainsBy asked (header_of text) (up_to asked.line (body_of text)) result old new
