use Rattle.std.proofs.Common.{◌≡◌, List, map, take}
use Rattle.watch.specs.Trace.{Trace}
use Rattle.watch_causes.specs.declared.begun.Begun.{Begun}
use Rattle.watch_causes.specs.Findings.{Judged}
use Rattle.watch_causes.specs.Moves.{fences_of}
use Rattle.watch_causes.specs.Reaches.{reach_among}
use Rattle.watch_causes.specs.Reaching.{HasReached}
use Rattle.watch_causes.proofs.reaches.Reaches.reaches.Given as goal

abbrev pub invariant-loop-at : goal.invariant-loop-at
invariant-loop-at l =
    (trace : Trace) (verdicts : List Judged) (begun : List Begun) → HasReached l.scheme trace verdicts begun l.self → l.fences ≡ fences_of trace
    → l.reaches.items ≡ map (reach_among l.scheme trace verdicts) (take l.at begun)
