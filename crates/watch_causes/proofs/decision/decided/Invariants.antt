use Rattle.std.proofs.Common.{◌≡◌, drop}
use Rattle.watch_causes.specs.Decisions.{decided}
use Rattle.watch_causes.proofs.decision.decided.Given as goal

abbrev pub invariant-loop-one : goal.invariant-loop-one
invariant-loop-one l = decided l.scheme l.fences l.warning (drop l.one-index l.moves) ≡ decided l.scheme l.fences l.warning l.moves
