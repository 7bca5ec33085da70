-- Which findings are known to be by design: those whose first verdict an entry of the list matches.
use Rattle.std.specs.Prelude.{ℕ, Bool, true, false, ◌==◌, ◌+◌, ◌&&◌, if◌then◌else◌, List, [], ◌∷◌, Option, Some, None, get_or, map, nat_eq, position, set}
use Rattle.std.specs.List.{enumerate_from, starts_with}
use Rattle.std.specs.Option.{is_none, is_some, option_map, option_or, unwrap_or}
use Rattle.pte.specs.declared.scheme.Scheme.{Scheme}
use Rattle.watch.specs.declared.trace.AddressRange.{AddressRange}
use Rattle.watch.specs.declared.trace.Record.{Record}
use Rattle.watch.specs.declared.trace.Verdict.{Verdict}
use Rattle.watch.specs.Computed.{is_same}
use Rattle.watch.specs.Holding.{reaches}
use Rattle.watch.specs.Trace.{Trace}
use Rattle.watch_engine.specs.declared.warning.Warning.{Warning}
use Rattle.watch_causes.specs.declared.finding.Finding.{Finding}
use Rattle.watch_causes.specs.declared.known.Known.{Known}
use Rattle.watch_causes.specs.declared.reach.Reach.{Reach}
use Rattle.watch_causes.specs.declared.reach.Reach.TheVariants.{Used, Reachable, NotReached}
use Rattle.watch_causes.specs.declared.reason.Reason.{Reason}
use Rattle.watch_causes.specs.Findings.{Judged, finding_of, is_same_finding, is_same_reason, is_same_verdict}
use Rattle.watch_causes.specs.Judging.{judged}
use Rattle.watch_causes.specs.Tallies.{more_if}

-- a verdict, and the note of the record that made the page stale
pub record Sourced : Type 0 where
  pub judged : Judged
  pub by : List ℕ

-- that of a warning at the record after the trace
abbrev pub sourced : Scheme → Record → Trace → Warning → List ℕ → Sourced
sourced scheme newest trace w by = record { judged = judged scheme newest trace w; by = by }

-- a verdict for which the number of its record does not matter
abbrev pub unnumbered : Warning → Reason → List ℕ → Sourced
unnumbered w reason by =
    record { judged = record { number = 0; warning = w; reason = reason }; by = by }

-- ---- entries

abbrev pub reach_number : Reach → ℕ
reach_number Used = 0
reach_number Reachable = 1
reach_number NotReached = 2

-- a test that is not there is passed; the reach of a finding may not be known
abbrev pub is_of_reach : Option Reach → Option Reach → Bool
is_of_reach None reach = true
is_of_reach (Some of) None = false
is_of_reach (Some of) (Some reach) = reach_number of == reach_number reach

-- an entry of the list, with its note as a text; the test of reach is of a finding on the whole trace
pub record KnownEntry : Type 0 where
  pub line : ℕ
  pub global : Bool
  pub first : Option Verdict
  pub reason : Option Reason
  pub reach : Option Reach
  pub among : Finding → Bool
  pub range : Option AddressRange
  pub note : List ℕ

-- where the reach of no finding is known
abbrev pub known_entry : Known → KnownEntry
known_entry known =
    record {
      line = known.line;
      global = known.global;
      first = known.first;
      reason = known.reason;
      reach = known.reach;
      among = λ f. is_of_reach known.reach None;
      range = known.range;
      note = known.note.items;
    }

-- where it is
abbrev pub resolved_by : (Finding → Option Reach) → KnownEntry → KnownEntry
resolved_by reach entry = record entry { among = λ f. is_of_reach entry.reach (reach f) }

-- a test that is not there is passed
abbrev pub is_of_kind : Option Verdict → Verdict → Bool
is_of_kind None kind = true
is_of_kind (Some first) kind = is_same_verdict first kind

abbrev pub is_for_reason : Option Reason → Reason → Bool
is_for_reason None reason = true
is_for_reason (Some of) reason = is_same_reason of reason

-- the entry's note begins the verdict's, and its reach is that of the verdict's finding
abbrev pub matches : KnownEntry → Sourced → Bool
matches entry v =
    is_same entry.global v.judged.warning.entry.global
    && (is_of_kind entry.first v.judged.warning.verdict
    && (is_for_reason entry.reason v.judged.reason
    && (reaches entry.range v.judged.warning.entry.page
    && (starts_with nat_eq v.by entry.note && entry.among (finding_of v.judged.warning)))))

-- the place of the first entry that matches
abbrev pub entry_of : List KnownEntry → Sourced → Option ℕ
entry_of known v = position (λ entry. matches entry v) known

-- ---- findings, by the verdicts so far, the newest first

abbrev pub finding : Sourced → Finding
finding v = finding_of v.judged.warning

-- the verdict that begins the finding
abbrev pub first_of : List Sourced → Finding → Option Sourced
first_of [] f = None
first_of (newest ∷ verdicts) f =
    option_or (first_of verdicts f) (if is_same_finding (finding newest) f then Some newest else None)

-- whether the finding is known, if it has begun
abbrev pub known_of : List KnownEntry → List Sourced → Finding → Option Bool
known_of known verdicts f = option_map (λ v. is_some (entry_of known v)) (first_of verdicts f)

-- the first verdict of the next one's finding: itself, if none is before
abbrev pub first_with : Sourced → List Sourced → Sourced
first_with next verdicts = unwrap_or (first_of verdicts (finding next)) next

-- the finding of the next verdict is known
abbrev pub is_known : List KnownEntry → Sourced → List Sourced → Bool
is_known known next verdicts = is_some (entry_of known (first_with next verdicts))

-- the next verdict begins its finding
abbrev pub begins : Sourced → List Sourced → Bool
begins next verdicts = is_none (first_of verdicts (finding next))

abbrev pub is_place : ℕ → Option ℕ → Bool
is_place place None = false
is_place place (Some of) = of == place

-- the next verdict begins a finding that the entry of this place counts
abbrev pub begins_at : List KnownEntry → ℕ → Sourced → List Sourced → Bool
begins_at known place next verdicts = begins next verdicts && is_place place (entry_of known next)

-- how many findings the entry of this place counts
abbrev pub known_findings : List KnownEntry → ℕ → List Sourced → ℕ
known_findings known place [] = 0
known_findings known place (newest ∷ verdicts) =
    more_if (begins_at known place newest verdicts) (known_findings known place verdicts)

-- how many each entry counts
abbrev pub counts_of : List KnownEntry → List Sourced → List ℕ
counts_of known verdicts = map (λ entry. known_findings known entry.0 verdicts) (enumerate_from 0 known)

-- how many findings are known
abbrev pub known_count : List KnownEntry → List Sourced → ℕ
known_count known [] = 0
known_count known (newest ∷ verdicts) =
    more_if (begins newest verdicts && is_some (entry_of known newest)) (known_count known verdicts)

-- with one more at a place, if there is one
abbrev pub counted_at : Option ℕ → List ℕ → List ℕ
counted_at None counts = counts
counted_at (Some place) counts = set counts place (get_or counts place 0 + 1)
