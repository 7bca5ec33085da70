use Rattle.std.proofs.Common.{◌≡◌, ◌++◌, List, drop}
use Rattle.pte.specs.declared.scheme.Scheme.{Scheme}
use Rattle.watch_causes.specs.KnownFindings.{KnownEntry, Sourced}
use Rattle.watch_causes.specs.KnownSoFar.{HasKnown}
use Rattle.watch_report.specs.KnownVerdicts.{unknown_at, with_verdicts}
use Rattle.watch_report.specs.Past.{ArePast}
use Rattle.watch_report.specs.TraceText.{Noted, trace_of}
use Rattle.watch_report.specs.VerdictLines.{noted_by}
use Rattle.watch_report.proofs.known_stage.unknown_at.Given as goal

abbrev pub invariant-loop-warning : goal.invariant-loop-warning
invariant-loop-warning l =
    (entries : List KnownEntry) (scheme : Scheme) (records : List Noted) (before : List Sourced) → ArePast records l.past → HasKnown entries scheme (trace_of records) before l.fn.known
    → (now : List Sourced) × HasKnown entries scheme (trace_of records) now l.known
    × (l.unknown.items ++ unknown_at entries scheme (noted_by l.newest) records (drop l.warning-index l.warnings) now ≡ unknown_at entries scheme (noted_by l.newest) records l.warnings before)
    × (with_verdicts scheme (noted_by l.newest) records (drop l.warning-index l.warnings) now ≡ with_verdicts scheme (noted_by l.newest) records l.warnings before)
