-- The verdicts that are not known to be by design.
use Rattle.std.specs.Prelude.{Bool, not, ◌&&◌, nat_lt, if◌then◌else◌, List, [], ◌∷◌, length}
use Rattle.std.specs.List.{list_any}
use Rattle.pte.specs.declared.scheme.Scheme.{Scheme}
use Rattle.watch.specs.declared.trace.Verdict.TheVariants.{Used}
use Rattle.watch_causes.specs.Findings.{is_same_verdict}
use Rattle.watch_causes.specs.KnownFindings.{KnownEntry, Sourced, is_known, sourced}
use Rattle.watch_engine.specs.declared.warning.Warning.{Warning}
use Rattle.watch_report.specs.TraceText.{Noted, note_at, trace_of}

-- a verdict at the newest record, with the note of the record that made its page stale
abbrev pub sourced_at : Scheme → Noted → List Noted → Warning → Sourced
sourced_at scheme newest records w =
    sourced scheme newest.made (trace_of records) w (note_at records w.stale_since)

-- the verdicts at a record and those before them, the newest first
abbrev pub with_verdicts : Scheme → Noted → List Noted → List Warning → List Sourced → List Sourced
with_verdicts scheme newest records [] before = before
with_verdicts scheme newest records (w ∷ warnings) before =
    with_verdicts scheme newest records warnings (sourced_at scheme newest records w ∷ before)

-- the verdicts at all records
abbrev pub verdicts_so_far : Scheme → List Noted → List (List Warning) → List Sourced
verdicts_so_far scheme [] given = []
verdicts_so_far scheme (newest ∷ records) [] = []
verdicts_so_far scheme (newest ∷ records) (warnings ∷ given) =
    with_verdicts scheme newest records warnings (verdicts_so_far scheme records given)

-- the next verdict is by design: its finding is known, and it is no `use`, which is the harm itself
abbrev pub is_by_design : List KnownEntry → Sourced → List Sourced → Bool
is_by_design known next before =
    is_known known next before && not (is_same_verdict next.judged.warning.verdict Used)

-- of the verdicts at a record those that are not by design, after the verdicts before
abbrev pub unknown_at : List KnownEntry → Scheme → Noted → List Noted → List Warning → List Sourced → List Warning
unknown_at known scheme newest records [] before = []
unknown_at known scheme newest records (w ∷ warnings) before =
    if is_by_design known (sourced_at scheme newest records w) before
    then unknown_at known scheme newest records warnings (sourced_at scheme newest records w ∷ before)
    else w ∷ unknown_at known scheme newest records warnings (sourced_at scheme newest records w ∷ before)

-- at each record
abbrev pub unknown : List KnownEntry → Scheme → List Noted → List (List Warning) → List (List Warning)
unknown known scheme [] given = []
unknown known scheme (newest ∷ records) [] = []
unknown known scheme (newest ∷ records) (warnings ∷ given) =
    unknown_at known scheme newest records warnings (verdicts_so_far scheme records given)
    ∷ unknown known scheme records given

-- whether there is a verdict at some record
abbrev pub has_verdict : List (List Warning) → Bool
has_verdict given = list_any (λ warnings. nat_lt 0 (length warnings)) given
