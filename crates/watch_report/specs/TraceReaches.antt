-- The reach of the findings on a whole trace, which an entry of the list of what is known may ask for.
use Rattle.std.specs.Prelude.{ℕ, Bool, true, false, ◌≡◌, ◌⊎◌, List, map, Option, Result, Ok, Err}
use Rattle.std.specs.List.{list_any}
use Rattle.std.specs.Option.{is_some}
use Rattle.pte.specs.declared.scheme.Scheme.{Scheme}
use Rattle.watch.specs.Trace.{Trace}
use Rattle.watch_causes.specs.Begins.{begun_of}
use Rattle.watch_causes.specs.Causes.{HasSeen}
use Rattle.watch_causes.specs.KnownFindings.{KnownEntry, resolved_by}
use Rattle.watch_causes.specs.KnownReaches.{reach_listed}
use Rattle.watch_causes.specs.KnownSoFar.{entries_by}
use Rattle.watch_causes.specs.Reaches.{reach_of}
use Rattle.watch_causes.specs.declared.finding.Finding.{Finding}
use Rattle.watch_causes.specs.declared.reach.Reach.{Reach}
use Rattle.watch_engine.specs.declared.warning.Warning.{Warning}
use Rattle.watch_engine.specs.Watching.{Follows}
use Rattle.watch_tables.specs.Words.{since, words}
use Rattle.watch_report.specs.declared.fault.ReportFault.{ReportFault}
use Rattle.watch_report.specs.declared.fault.ReportFault.TheVariants.{Unreadable, NoMemory}
use Rattle.watch_report.specs.declared.filter.Filter.{Filter}
use Rattle.watch_report.specs.declared.header.Header.{Header}
use Rattle.watch_report.specs.declared.judging.Judging.{Judging}
use Rattle.watch_report.specs.declared.known_list.KnownList.{KnownList}
use Rattle.watch_report.specs.Ending.{Ends}
use Rattle.watch_report.specs.KnownLists.{KnownIn, list_of}
use Rattle.watch_report.specs.Reports.{Told}
use Rattle.watch_report.specs.TraceText.{Noted, body_of, header_of, records_of, trace_of}
use Rattle.watch_report.specs.VerdictLines.{AreTakenBy}

-- of a finding, by the warnings at each record
abbrev pub reach_on : Scheme → Trace → List (List Warning) → Finding → Option Reach
reach_on scheme trace given f =
    reach_listed (begun_of scheme trace given) (map (reach_of scheme trace given) (begun_of scheme trace given)) f

-- on these records, by the warnings that the filter takes
abbrev pub AreReachesOn : Filter → Scheme → List Noted → (Finding → Option Reach) → Type 0
AreReachesOn filter scheme records reach =
    (taken : List (List Warning)) × AreTakenBy filter scheme records taken
    × ((f : Finding) → reach f ≡ reach_on scheme (trace_of records) taken f)

-- on those before the first line that has no form, by what the first line says and the lines after it
abbrev pub AreReachesBy : Filter → Result Header (List ℕ) → List (List ℕ) → (Finding → Option Reach) → Type 0
AreReachesBy filter (Err first) lines reach = Unit {0}
AreReachesBy filter (Ok header) lines reach =
    AreReachesOn filter header.scheme (records_of header lines) reach

abbrev pub AreReaches : Filter → List ℕ → (Finding → Option Reach) → Type 0
AreReaches filter text reach = AreReachesBy filter (header_of text) (body_of text) reach

-- ---- the list

-- some entry has a reach
abbrev pub asks_for_reach : List KnownEntry → Bool
asks_for_reach entries = list_any (λ entry. is_some entry.reach) entries

-- the list for a trace whose findings have these reaches
abbrev pub resolved : (Finding → Option Reach) → KnownIn → KnownIn
resolved reach known = list_of known.file (map (resolved_by reach) known.entries)

abbrev pub known_by : (Finding → Option Reach) → KnownList → KnownIn
known_by reach list = list_of list.file.now (entries_by reach list.entries.items)

-- nothing is written, since the trace cannot be read, or memory runs out
abbrev pub IsUnread : Result Bool ReportFault → Option (List ℕ) → Option (List ℕ) → Type 0
IsUnread (Err Unreadable) old new = new ≡ old
IsUnread (Err NoMemory) old new = new ≡ old
IsUnread _ old new = ⊥

-- by a list that asks for reaches, or does not: the trace is read and judged whole before that
abbrev pub EndsAs : Bool → Told → List ℕ → Result Bool ReportFault → Option (List ℕ) → Option (List ℕ) → Type 0
EndsAs false told text result old new = Ends told text result old new
EndsAs true told text result old new =
    IsUnread result old new
    ⊎ ((reach : Finding → Option Reach) × AreReaches told.options.filter text reach
    × Ends (record told { known = resolved reach told.known }) text result old new)

abbrev pub EndsJudged : Told → List ℕ → Result Bool ReportFault → Option (List ℕ) → Option (List ℕ) → Type 0
EndsJudged told text result old new =
    EndsAs (asks_for_reach told.known.entries) told text result old new

-- ---- what is kept of the records that were read

pub record HasJudged (filter : Filter) (records : List Noted) (taken : List (List Warning)) (j : Judging) : Type 0 where
  pub filter_is : j.filter ≡ filter
  pub follows : Follows words since (trace_of records) j.watch
  pub scheme : j.watch.scheme ≡ j.header.scheme
  pub causes_scheme : j.causes.scheme ≡ j.header.scheme
  pub are : AreTakenBy filter j.header.scheme records taken
  pub seen : HasSeen (trace_of records) taken j.causes
