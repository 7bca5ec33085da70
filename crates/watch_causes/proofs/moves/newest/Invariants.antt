use Rattle.std.proofs.Common.{◌≡◌, drop, None}
use Rattle.watch_causes.specs.Moves.{newest_open}
use Rattle.watch_causes.proofs.moves.newest.Given as goal

abbrev pub invariant-loop-one : goal.invariant-loop-one
invariant-loop-one l = newest_open l.token l.found (drop l.one-index l.begun) ≡ newest_open l.token None l.begun
