-- What the text of a trace says, line by line.
use Rattle.std.specs.Prelude.{ℕ, Bool, ◌==◌, ◌+◌, ◌-◌, ◌≡◌, ◌≤◌, List, [], ◌∷◌, drop, get_or, length, map, if◌then◌else◌}
use Rattle.std.specs.Prelude.{Option, Some, None, option_map, Result, Ok, Err}
use Rattle.std.specs.List.{before_first, position, slice_split}
use Rattle.std.specs.Option.{is_none}
use Rattle.watch.specs.declared.trace.Record.{Record}
use Rattle.watch.specs.Trace.{Trace}
use Rattle.watch_report.specs.declared.header.Header.{Header}
use Rattle.watch_report.specs.declared.line_fault.LineFault.{LineFault}
use Rattle.watch_report.specs.Fields.{fields_of}
use Rattle.watch_report.specs.LineFaults.{fault_of, header_fault}
use Rattle.watch_report.specs.TraceLines.{LineText, header_in, line_in, record_of}

-- the lines of a text: what stands between its line feeds
abbrev pub is_feed : ℕ → Bool
is_feed byte = byte == 10

abbrev pub lines_of : List ℕ → List (List ℕ)
lines_of text = slice_split is_feed text

-- what its first line says, or that line itself where it is no header; and the lines after it
abbrev pub or_line : List ℕ → Option Header → Result Header (List ℕ)
or_line line None = Err line
or_line line (Some header) = Ok header

abbrev pub said_first : List ℕ → Result Header (List ℕ)
said_first line = or_line line (header_in (fields_of line))

abbrev pub header_of : List ℕ → Result Header (List ℕ)
header_of text = said_first (get_or (lines_of text) 0 [])

abbrev pub body_of : List ℕ → List (List ℕ)
body_of text = drop 1 (lines_of text)

abbrev pub has_no_form : Header → List ℕ → Bool
has_no_form header line = is_none (line_in header line)

-- the number of the first line that has no form: the header is line 1
abbrev pub faulty_line : Result Header (List ℕ) → List (List ℕ) → Option ℕ
faulty_line (Err first) lines = Some 1
faulty_line (Ok header) lines = option_map (λ n. n + 2) (position (has_no_form header) lines)

-- the fault of the line of a number
abbrev pub fault_in : Result Header (List ℕ) → List (List ℕ) → ℕ → Option LineFault
fault_in (Err first) lines number = header_fault first
fault_in (Ok header) lines number = fault_of header (get_or lines (number - 2) [])

-- a record, what its note says, and the number of its line: the header is line 1
pub record Noted : Type 0 where
  pub made : Record
  pub by : List ℕ
  pub line : ℕ

-- with the record that the line of a number says, if it says one
abbrev pub with_record : Option LineText → ℕ → List Noted → List Noted
with_record (Some (record_of made by)) number records =
    record { made = made; by = by; line = number } ∷ records
with_record _ number records = records

-- the records of lines after those before them, the newest first; the first line has the number
abbrev pub records_after : Header → ℕ → List Noted → List (List ℕ) → List Noted
records_after header number records [] = records
records_after header number records (line ∷ lines) =
    records_after header (number + 1) (with_record (line_in header line) number records) lines

-- the records before the first line that has no form, the newest first
abbrev pub records_of : Header → List (List ℕ) → List Noted
records_of header lines = records_after header 2 [] (before_first (has_no_form header) lines)

abbrev pub trace_of : List Noted → Trace
trace_of records = map (λ r. r.made) records

-- the note of the record of this number, from 1 on
abbrev pub note_at : List Noted → ℕ → List ℕ
note_at [] number = []
note_at (newest ∷ records) number =
    if number == length (newest ∷ records) then newest.by else note_at records number

-- the line of the record of this number, from 1 on; 0 if there is none
abbrev pub line_at : List Noted → ℕ → ℕ
line_at [] number = 0
line_at (newest ∷ records) number =
    if number == length (newest ∷ records) then newest.line else line_at records number

-- its line is one of those after the header, and says the record and the note
abbrev pub StandsOnLine : Header → List (List ℕ) → Noted → Type 0
StandsOnLine header lines r =
    (2 ≤ r.line) × (line_in header (get_or lines (r.line - 2) []) ≡ Some (record_of r.made r.by))
