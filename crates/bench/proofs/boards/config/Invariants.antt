use Rattle.std.proofs.Common.{◌≡◌, length}
use Rattle.bench.proofs.boards.config.Given as goal

abbrev pub invariant-loop-hart : goal.invariant-loop-hart
invariant-loop-hart l = length l.spares.items ≡ l._hart
