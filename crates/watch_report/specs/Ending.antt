-- How the report of a trace ends, and what it leaves written.
use Rattle.std.specs.Prelude.{ℕ, Bool, true, false, ◌≡◌, ◌⊎◌, List, [], ◌++◌, Option, Some, None, Result, Ok, Err}
use Rattle.watch_report.specs.declared.header.Header.{Header}
use Rattle.watch_report.specs.declared.fault.ReportFault.{ReportFault}
use Rattle.watch_report.specs.declared.fault.ReportFault.TheVariants.{Unreadable, Line, Output, BrokenPipe, BrokenPipeAtLine, NoMemory}
use Rattle.watch_report.specs.declared.line_fault.LineFault.{LineFault}
use Rattle.watch_report.specs.declared.reading_fault.ReadingFault.{ReadingFault}
use Rattle.watch_report.specs.declared.reading_fault.ReadingFault.TheVariants as reading
use Rattle.watch_report.specs.Output.{WritesAll, WritesFront}
use Rattle.watch_report.specs.Reading.{report_fault_of}
use Rattle.watch_report.specs.TraceText.{body_of, fault_in, faulty_line, header_of, records_of}
use Rattle.watch_report.specs.Reports.{TellsVerdict, Told, VerdictText, WholeText}

-- what is printed of lines after the first: what is told of each record before the first line that has
-- no form; and nothing where the first line is no header
abbrev pub Tells : Told → Result Header (List ℕ) → List (List ℕ) → List ℕ → Type 0
Tells told (Err first) lines text = text ≡ []
Tells told (Ok header) lines text = VerdictText told header.scheme (records_of header lines) text

-- and after that the last lines; and whether a verdict is told
abbrev pub TellsAll : Told → Result Header (List ℕ) → List (List ℕ) → Bool → List ℕ → Type 0
TellsAll told (Err first) lines some text = (some ≡ false) × (text ≡ [])
TellsAll told (Ok header) lines some text =
    WholeText told (faulty_line (Ok header) lines) header.scheme (records_of header lines) some text

-- what was written is so of the first of the lines, some or all
abbrev pub EndsWithin : ((List ℕ → Type 0) → Option (List ℕ) → Option (List ℕ) → Type 0)
    → Told → Result Header (List ℕ) → List (List ℕ) → Option (List ℕ) → Option (List ℕ) → Type 0
EndsWithin Writes told said lines old new =
    (front : List (List ℕ)) × (back : List (List ℕ)) × (front ++ back ≡ lines)
    × Writes (Tells told said front) old new

-- and a verdict on them is told, and they all have a form
abbrev pub Warns : Told → Result Header (List ℕ) → List (List ℕ) → Type 0
Warns told (Err first) lines = ⊥
Warns told (Ok header) lines = TellsVerdict told header.scheme (records_of header lines)

abbrev pub EndsWarned : Told → Result Header (List ℕ) → List (List ℕ) → Option (List ℕ) → Option (List ℕ) → Type 0
EndsWarned told said lines old new =
    (front : List (List ℕ)) × (back : List (List ℕ)) × (front ++ back ≡ lines)
    × (faulty_line said front ≡ None) × Warns told said front × WritesFront (Tells told said front) old new

-- how it ends for what the first line says and these lines after it: done, and whether a verdict is
-- told; at the first line that has no form, by its fault, and whether a verdict is told before it; or
-- within the lines, where the reader or the writer fails, or memory runs out. Where nobody reads what is
-- written any more it ends after the first of the lines, on which a verdict is told, or after all
abbrev pub EndsBy : Told → Result Header (List ℕ) → List (List ℕ) → Result Bool ReportFault
    → Option (List ℕ) → Option (List ℕ) → Type 0
EndsBy told said lines (Ok some) old new =
    (faulty_line said lines ≡ None) × WritesAll (TellsAll told said lines some) old new
EndsBy told said lines (Err (Line number fault some)) old new =
    (faulty_line said lines ≡ Some number) × (fault_in said lines number ≡ Some fault)
    × WritesAll (TellsAll told said lines some) old new
EndsBy told said lines (Err Unreadable) old new = EndsWithin WritesAll told said lines old new
EndsBy told said lines (Err NoMemory) old new = EndsWithin WritesAll told said lines old new
EndsBy told said lines (Err Output) old new =
    EndsWithin WritesFront told said lines old new
    ⊎ ((some : Bool) × WritesFront (TellsAll told said lines some) old new)
EndsBy told said lines (Err (BrokenPipe true)) old new =
    EndsWarned told said lines old new
    ⊎ (faulty_line said lines ≡ None) × WritesFront (TellsAll told said lines true) old new
EndsBy told said lines (Err (BrokenPipe false)) old new =
    (faulty_line said lines ≡ None) × WritesFront (TellsAll told said lines false) old new
EndsBy told said lines (Err (BrokenPipeAtLine number fault some)) old new =
    (faulty_line said lines ≡ Some number) × (fault_in said lines number ≡ Some fault)
    × WritesFront (TellsAll told said lines some) old new

abbrev pub Ends : Told → List ℕ → Result Bool ReportFault → Option (List ℕ) → Option (List ℕ) → Type 0
Ends told text result old new = EndsBy told (header_of text) (body_of text) result old new

-- at a line of this number with this fault, by how the last lines were written
abbrev pub report_at : ℕ → LineFault → Result Bool ReadingFault → ReportFault
report_at number fault (Ok some) = Line number fault some
report_at number fault (Err reading.BrokenPipe) = BrokenPipeAtLine number fault false
report_at number fault (Err reading.BrokenPipeWarned) = BrokenPipeAtLine number fault true
report_at number fault (Err other) = report_fault_of other

abbrev pub IsAtLine : ℕ → Option LineFault → Result Bool ReadingFault → ReportFault → Type 0
IsAtLine number found finished told =
    (fault : LineFault) × (found ≡ Some fault) × (told ≡ report_at number fault finished)
