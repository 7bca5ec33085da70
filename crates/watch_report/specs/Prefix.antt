-- What is read of a trace for a story.
use Rattle.std.specs.Prelude.{ℕ, Bool, true, false, ◌≡◌, ◌<◌, ◌==◌, if◌then◌else◌, List, [], ◌∷◌, Option, Some, None, option_map, Result, Ok, Err}
use Rattle.pte.specs.declared.scheme.Scheme.{Scheme}
use Rattle.watch.specs.declared.trace.Record.{Record}
use Rattle.watch.specs.declared.trace.Record.TheVariants.{ClaimBegin, ClaimEnd}
use Rattle.watch.specs.Trace.{Trace, claim_of}
use Rattle.watch_causes.specs.Stories.{IsStory}
use Rattle.watch_engine.specs.declared.warning.Warning.{Warning}
use Rattle.watch_engine.specs.Open.{claim_begun}
use Rattle.watch_report.specs.declared.fault.ReportFault.{ReportFault}
use Rattle.watch_report.specs.declared.fault.ReportFault.TheVariants.{Unreadable, Line, Output, BrokenPipe, BrokenPipeAtLine, NoMemory}
use Rattle.watch_report.specs.declared.filter.Filter.{Filter}
use Rattle.watch_report.specs.declared.header.Header.{Header}
use Rattle.watch_report.specs.declared.prefix.Found.{Found}
use Rattle.watch_report.specs.declared.prefix.Prefix.{Prefix}
use Rattle.watch_report.specs.Explaining.{Asked, Gives, HasVerdict, IsTold, Tells, TellsAt, made_in, up_to}
use Rattle.watch_report.specs.Filters.{AreTakenAt}
use Rattle.watch_report.specs.LineFaults.{fault_of}
use Rattle.watch_report.specs.Orders.{IsInOrder}
use Rattle.watch_report.specs.Past.{ArePast}
use Rattle.watch_report.specs.TraceLines.{line_in}
use Rattle.watch_report.specs.TraceText.{Noted, body_of, fault_in, faulty_line, has_no_form, header_of, trace_of, with_record}
use Rattle.watch_report.specs.VerdictLines.{GivesAt, trigger_of}

-- these are the records that were read
pub record IsPrefix (records : List Noted) (p : Prefix) : Type 0 where
  pub made : p.records.items ≡ made_in records
  pub past : ArePast records p.past

-- the newest stands on an earlier line
abbrev pub AreBefore : ℕ → List Noted → Type 0
AreBefore line [] = Unit {0}
AreBefore line (newest ∷ records) = newest.line < line

-- the number of the record that began the claim under the token, if it is open
abbrev pub open_claim : ℕ → Trace → Option ℕ
open_claim token trace = option_map (λ _. claim_begun token trace) (claim_of trace token)

-- the same after one more record, which has the number
abbrev pub begun_after : ℕ → Record → ℕ → Option ℕ → Option ℕ
begun_after token (ClaimBegin hart of claim) number begun =
    if of == token then Some number else begun
begun_after token (ClaimEnd hart of) number begun = if of == token then None else begun
begun_after token _ number begun = begun

-- ---- at the newest record

-- the first of the verdicts there that the filter takes, in order, if there is one
abbrev pub IsFirst : Filter → Scheme → Record → Trace → Option Warning → Type 0
IsFirst filter scheme newest trace None = ¬ GivesAt filter scheme newest trace
IsFirst filter scheme newest trace (Some first) =
    (others : List Warning) × AreTakenAt filter scheme newest trace (first ∷ others)
    × IsInOrder (first ∷ others)

abbrev pub first_of : List Warning → Option Warning
first_of [] = None
first_of (first ∷ others) = Some first

-- a verdict there, the first that the filter takes, and its story
pub record IsFound (filter : Filter) (scheme : Scheme) (newest : Noted) (records : List Noted)
    (found : Found) : Type 0 where
  pub acts : trigger_of records newest.made ≡ Some found.trigger
  pub first : IsFirst filter scheme newest.made (trace_of records) (Some found.first)
  pub story : IsStory scheme (made_in (newest ∷ records)) found.first found.parts.items

-- whether there is one
abbrev pub FindsAt : Filter → Scheme → Noted → List Noted → Option Found → Type 0
FindsAt filter scheme newest records None =
    ¬ GivesAt filter scheme newest.made (trace_of records)
FindsAt filter scheme newest records (Some found) = IsFound filter scheme newest records found

-- whether a story is told of one, and its text
abbrev pub TellsOf : Asked → Header → Noted → List Noted → Bool → List ℕ → Type 0
TellsOf asked header newest records true text = IsTold asked header newest records text
TellsOf asked header newest records false text =
    ¬ GivesAt asked.filter header.scheme newest.made (trace_of records)

-- ---- at the line that is asked for

abbrev pub SaysAt : Asked → Header → List Noted → Bool → List ℕ → Type 0
SaysAt asked header records true text = TellsAt asked header records text
SaysAt asked header records false text = ¬ HasVerdict asked header records

-- after the records before it
abbrev pub ExplainsLine : Asked → Header → List Noted → List ℕ → Result Bool ReportFault → List ℕ → Type 0
ExplainsLine asked header records line (Ok told) text =
    (has_no_form header line ≡ false)
    × SaysAt asked header (with_record (line_in header line) asked.line records) told text
ExplainsLine asked header records line (Err (Line number fault warned)) text =
    (has_no_form header line ≡ true) × (number ≡ asked.line)
    × (fault_of header line ≡ Some fault) × (warned ≡ false)
ExplainsLine asked header records line (Err Unreadable) text = ⊥
ExplainsLine asked header records line (Err NoMemory) text = Unit {0}
ExplainsLine asked header records line (Err Output) text = ⊥
ExplainsLine asked header records line (Err (BrokenPipe warned)) text = ⊥
ExplainsLine asked header records line (Err (BrokenPipeAtLine number fault warned)) text = ⊥
