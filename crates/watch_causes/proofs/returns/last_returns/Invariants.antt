use Rattle.watch_engine.specs.declared.warning.Warning.{Warning}
use Rattle.std.proofs.Common.{◌≡◌, take}
use Rattle.watch_causes.specs.Returns.{last_in, last_return}
use Rattle.watch_causes.proofs.returns.last_returns.Given as goal

abbrev pub invariant-loop-at : goal.invariant-loop-at
invariant-loop-at l = (w : Warning) → last_in l.lasts w ≡ last_return w (take l.at l.moves)
