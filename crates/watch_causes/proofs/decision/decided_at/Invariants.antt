use Rattle.std.proofs.Common.{◌≡◌, drop}
use Rattle.watch_causes.specs.Concerned.{decided_at}
use Rattle.watch_causes.proofs.decision.decided_at.Given as goal

abbrev pub invariant-loop-place : goal.invariant-loop-place
invariant-loop-place l =
    decided_at l.scheme l.fences l.warning l.moves (drop l.place-index l.places) ≡ decided_at l.scheme l.fences l.warning l.moves l.places
