-- The findings on a trace, each by the verdict that begins it, in the order in which they began.
use Rattle.std.specs.Prelude.{if◌then◌else◌, List, [], ◌∷◌, ◌++◌}
use Rattle.pte.specs.declared.scheme.Scheme.{Scheme}
use Rattle.watch.specs.declared.trace.Record.{Record}
use Rattle.watch.specs.Trace.{Trace}
use Rattle.watch_engine.specs.declared.warning.Warning.{Warning}
use Rattle.watch_causes.specs.declared.begun.Begun.{Begun}
use Rattle.watch_causes.specs.Fenced.{fenced_of}
use Rattle.watch_causes.specs.Findings.{Judged, begins_finding, cause_by}
use Rattle.watch_causes.specs.Judging.{judged, verdicts_of}

-- the finding that begins with a verdict at the record after the trace
abbrev pub begun_by : Record → Trace → Judged → Begun
begun_by newest trace v =
    record {
      number = v.number;
      warning = v.warning;
      cause = cause_by v;
      fenced = fenced_of newest trace v.warning;
    }

-- with the verdict, after others: only the first of a finding begins it
abbrev pub begun_with : Record → Trace → List Judged → List Begun → Judged → List Begun
begun_with newest trace verdicts begun v =
    if begins_finding v verdicts then begun ++ begun_by newest trace v ∷ [] else begun

-- with those of the warnings at that record, one after the other
abbrev pub begun_after : Scheme → Record → Trace → List Judged → List Begun → List Warning → List Begun
begun_after scheme newest trace verdicts begun [] = begun
begun_after scheme newest trace verdicts begun (w ∷ warnings) =
    begun_after scheme newest trace (judged scheme newest trace w ∷ verdicts)
    (begun_with newest trace verdicts begun (judged scheme newest trace w)) warnings

-- those on a trace, by the warnings at each record, at the newest first
abbrev pub begun_of : Scheme → Trace → List (List Warning) → List Begun
begun_of scheme [] given = []
begun_of scheme (newest ∷ trace) [] = []
begun_of scheme (newest ∷ trace) (warnings ∷ given) =
    begun_after scheme newest trace (verdicts_of scheme trace given) (begun_of scheme trace given)
    warnings
