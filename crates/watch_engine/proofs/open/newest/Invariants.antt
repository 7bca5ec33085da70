use Rattle.std.proofs.Common.{◌≡◌, drop, None}
use Rattle.watch_engine.specs.Open.{newest}
use Rattle.watch_engine.proofs.open.newest.Given as goal

abbrev pub invariant-loop-one : goal.invariant-loop-one
invariant-loop-one g l = newest g.B.Begun.token_of l.token l.found (drop l.one-index l.begun) ≡ newest g.B.Begun.token_of l.token None l.begun
