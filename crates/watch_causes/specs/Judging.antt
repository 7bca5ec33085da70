-- The verdicts on a trace, each with its reason, by the warnings at its records.
use Rattle.std.specs.Prelude.{List, [], ◌∷◌, length}
use Rattle.pte.specs.declared.scheme.Scheme.{Scheme}
use Rattle.watch.specs.declared.trace.Record.{Record}
use Rattle.watch.specs.Trace.{Trace}
use Rattle.watch_engine.specs.declared.warning.Warning.{Warning}
use Rattle.watch_causes.specs.Findings.{Judged}
use Rattle.watch_causes.specs.Reasons.{reason_of}

-- the verdict of a warning at the record after the trace
abbrev pub judged : Scheme → Record → Trace → Warning → Judged
judged scheme newest trace w =
    record {
      number = length (newest ∷ trace);
      warning = w;
      reason = reason_of scheme newest trace w;
    }

-- with those of the warnings at that record after the others: the last of them is the newest
abbrev pub judged_after : Scheme → Record → Trace → List Judged → List Warning → List Judged
judged_after scheme newest trace verdicts [] = verdicts
judged_after scheme newest trace verdicts (w ∷ warnings) =
    judged_after scheme newest trace (judged scheme newest trace w ∷ verdicts) warnings

-- those on a trace, the newest first, by the warnings at each record, at the newest first
abbrev pub verdicts_of : Scheme → Trace → List (List Warning) → List Judged
verdicts_of scheme [] given = []
verdicts_of scheme (newest ∷ trace) [] = []
verdicts_of scheme (newest ∷ trace) (warnings ∷ given) =
    judged_after scheme newest trace (verdicts_of scheme trace given) warnings
