use Rattle.std.proofs.Common.{◌≡◌, ◌∷◌, List, drop}
use Rattle.watch.specs.Trace.{Trace}
use Rattle.watch_causes.specs.Begins.{begun_after}
use Rattle.watch_causes.specs.Causes.{AreOf}
use Rattle.watch_causes.specs.declared.begun.Begun.{Begun}
use Rattle.watch_causes.specs.Findings.{Judged}
use Rattle.watch_causes.specs.Judging.{judged_after}
use Rattle.watch_causes.specs.Logs.{Follows}
use Rattle.watch_causes.specs.Reaching.{HasReached}
use Rattle.watch_causes.proofs.findings.Findings.take_all.Given as goal

abbrev pub invariant-loop-warning : goal.invariant-loop-warning
invariant-loop-warning l =
    (trace : Trace) (verdicts : List Judged) → Follows trace l.log → AreOf verdicts l.fn.self
    → (so_far : List Judged) × AreOf so_far l.self
    × (judged_after l.scheme l.newest trace so_far (drop l.warning-index l.warnings) ≡ judged_after l.scheme l.newest trace verdicts l.warnings)
    × ((begun : List Begun) → HasReached l.scheme (l.newest ∷ trace) verdicts begun l.fn.reaches
    → (now : List Begun) × HasReached l.scheme (l.newest ∷ trace) so_far now l.reaches
    × (begun_after l.scheme l.newest trace so_far now (drop l.warning-index l.warnings) ≡ begun_after l.scheme l.newest trace verdicts begun l.warnings))
