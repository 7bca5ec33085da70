-- A trace that is being read.
use Rattle.std.specs.Prelude.{ℕ, Bool, true, false, ◌≡◌, List, [], ◌∷◌, ◌++◌, length, Option, OnSome, if◌then◌else◌}
use Rattle.std.specs.Io.KnownBytes.{Appends, Consumes, IsAtEnd}
use Rattle.watch_causes.specs.KnownSoFar.{HasKnown}
use Rattle.watch_engine.specs.declared.warning.Warning.{Warning}
use Rattle.watch_engine.specs.Watching.{Follows}
use Rattle.watch_tables.specs.Words.{since, words}
use Rattle.watch_report.specs.declared.fault.ReportFault.{ReportFault}
use Rattle.watch_report.specs.declared.options.Options.{Options}
use Rattle.watch_report.specs.KnownLists.{KnownIn}
use Rattle.watch_report.specs.declared.fault.ReportFault.TheVariants as reported
use Rattle.watch_report.specs.declared.reading_fault.ReadingFault.{ReadingFault}
use Rattle.watch_report.specs.declared.reading_fault.ReadingFault.TheVariants.{Unreadable, Output, BrokenPipe, BrokenPipeWarned, NoMemory}
use Rattle.watch_report.specs.declared.output.WriteFault.{WriteFault}
use Rattle.watch_report.specs.declared.output.WriteFault.TheVariants as write
use Rattle.watch_report.specs.declared.reading.Reading.{Reading}
use Rattle.pte.specs.declared.scheme.Scheme.{Scheme}
use Rattle.watch_report.specs.declared.header.Header.{Header}
use Rattle.watch_report.specs.TraceLines.{line_in}
use Rattle.watch_report.specs.Past.{ArePast}
use Rattle.watch_report.specs.Output.{WritesAll, WritesFront}
use Rattle.watch_report.specs.TraceText.{Noted, has_no_form, lines_of, trace_of, with_record}
use Rattle.watch_report.specs.KnownVerdicts.{unknown, unknown_at, verdicts_so_far}
use Rattle.watch_report.specs.Reports.{TellsVerdict, Told, VerdictText, WholeText, told_at, told_of_taken, told_text}
use Rattle.watch_report.specs.Telling.{IsTelling}
use Rattle.watch_report.specs.VerdictLines.{AreTakenBy, counts_of}

-- the bytes are the line, and its line feed if more come after it
abbrev pub CutsLine : Bool → List ℕ → List ℕ → Type 0
CutsLine true bytes line = (after : List ℕ) → lines_of (bytes ++ after) ≡ line ∷ lines_of after
CutsLine false bytes line = lines_of bytes ≡ line ∷ []

-- no byte comes after the last line
abbrev pub IsLastUnless : Bool → Option (List ℕ) → Option (List ℕ) → Type 0
IsLastUnless true left rest = Unit {0}
IsLastUnless false left rest = OnSome left (IsAtEnd rest)

-- the reader had the line in front
pub record ReadsLine (left rest : Option (List ℕ)) (line : List ℕ) (more : Bool) : Type 0 where
  pub bytes : List ℕ
  pub consumed : Consumes left rest bytes
  pub cut : CutsLine more bytes line
  pub last : IsLastUnless more left rest

abbrev pub IsReadFault : ReadingFault → Type 0
IsReadFault Unreadable = Unit {0}
IsReadFault Output = ⊥
IsReadFault BrokenPipe = ⊥
IsReadFault BrokenPipeWarned = ⊥
IsReadFault NoMemory = Unit {0}

-- the report's fault for one of the reading
abbrev pub report_fault_of : ReadingFault → ReportFault
report_fault_of Unreadable = reported.Unreadable
report_fault_of Output = reported.Output
report_fault_of BrokenPipe = reported.BrokenPipe false
report_fault_of BrokenPipeWarned = reported.BrokenPipe true
report_fault_of NoMemory = reported.NoMemory

-- why the reading fails where a write does, and there was a verdict or none
abbrev pub unwritten : WriteFault → Bool → ReadingFault
unwritten write.BrokenPipe some = if some then BrokenPipeWarned else BrokenPipe
unwritten write.Failed some = Output

-- these records were read, with these warnings that the filter takes
pub record HasSeen (options : Options) (known : KnownIn) (records : List Noted) (taken : List (List Warning))
    (r : Reading) : Type 0 where
  pub follows : Follows words since (trace_of records) r.watch
  pub scheme : r.watch.scheme ≡ r.header.scheme
  pub options_are : r.options ≡ options
  pub are : AreTakenBy options.filter r.header.scheme records taken
  pub number : r.records ≡ length records
  pub past : ArePast records r.past
  pub has_known : HasKnown known.entries r.header.scheme (trace_of records) (verdicts_so_far r.header.scheme records taken) r.known
  pub telling : IsTelling options r.header.scheme records (unknown known.entries r.header.scheme records taken) r.telling
  pub user : r.user ≡ counts_of false (unknown known.entries r.header.scheme records taken)
  pub kernel : r.kernel ≡ counts_of true (unknown known.entries r.header.scheme records taken)

-- what is told at the next record, where the filter takes these warnings
abbrev pub next_text : Told → Scheme → Noted → List Noted → List Warning → List (List Warning) → List ℕ
next_text told scheme newest records warnings taken =
    told_at told.options told.file scheme newest records
    (unknown_at told.known.entries scheme newest records warnings (verdicts_so_far scheme records taken))
    (told_of_taken told scheme records taken)

-- one more was read, of which this is told
pub record TellsMore (told : Told) (newest : Noted) (records : List Noted) (taken : List (List Warning))
    (text : List ℕ) (r : Reading) : Type 0 where
  pub warnings : List Warning
  pub seen : HasSeen told.options told.known (newest ∷ records) (warnings ∷ taken) r
  pub is_told : text ≡ next_text told r.header.scheme newest records warnings taken

-- and what is told of them was written
pub record Stands (told : Told) (start out : Option (List ℕ)) (records : List Noted)
    (r : Reading) : Type 0 where
  pub taken : List (List Warning)
  pub seen : HasSeen told.options told.known records taken r
  pub written : Appends start out (told_text told r.header.scheme records (told_of_taken told r.header.scheme records taken))

-- what was written where a step fails at a record, a line, or the end, after these records: nothing is
-- written of a record without a verdict
abbrev pub FailsAtRecord : ReadingFault → Told → Scheme → Noted → List Noted → Option (List ℕ)
    → Option (List ℕ) → Type 0
FailsAtRecord Unreadable told scheme newest records start out = ⊥
FailsAtRecord Output told scheme newest records start out =
    WritesFront (VerdictText told scheme (newest ∷ records)) start out
FailsAtRecord BrokenPipe told scheme newest records start out = ⊥
FailsAtRecord BrokenPipeWarned told scheme newest records start out =
    TellsVerdict told scheme (newest ∷ records)
    × WritesFront (VerdictText told scheme (newest ∷ records)) start out
FailsAtRecord NoMemory told scheme newest records start out =
    WritesAll (VerdictText told scheme records) start out

abbrev pub FailsAtLine : ReadingFault → Told → Header → ℕ → List ℕ → List Noted
    → Option (List ℕ) → Option (List ℕ) → Type 0
FailsAtLine Unreadable told header number line records start out = ⊥
FailsAtLine Output told header number line records start out =
    (has_no_form header line ≡ false)
    × WritesFront (VerdictText told header.scheme (with_record (line_in header line) number records))
    start out
FailsAtLine BrokenPipe told header number line records start out = ⊥
FailsAtLine BrokenPipeWarned told header number line records start out =
    (has_no_form header line ≡ false)
    × TellsVerdict told header.scheme (with_record (line_in header line) number records)
    × WritesFront (VerdictText told header.scheme (with_record (line_in header line) number records))
    start out
FailsAtLine NoMemory told header number line records start out =
    WritesAll (VerdictText told header.scheme records) start out

abbrev pub FailsAtEnd : ReadingFault → Told → Option ℕ → Scheme → List Noted → Option (List ℕ)
    → Option (List ℕ) → Type 0
FailsAtEnd Unreadable told wrong scheme records start out = ⊥
FailsAtEnd Output told wrong scheme records start out =
    (some : Bool) × WritesFront (WholeText told wrong scheme records some) start out
FailsAtEnd BrokenPipe told wrong scheme records start out =
    WritesFront (WholeText told wrong scheme records false) start out
FailsAtEnd BrokenPipeWarned told wrong scheme records start out =
    WritesFront (WholeText told wrong scheme records true) start out
FailsAtEnd NoMemory told wrong scheme records start out =
    WritesAll (VerdictText told scheme records) start out
