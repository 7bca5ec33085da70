use Rattle.std.proofs.Common.{◌≡◌, length}
use Rattle.bench.proofs.cycle.config.Given as goal

abbrev pub invariant-loop-home : goal.invariant-loop-home
invariant-loop-home l = length l.spaces.items ≡ l.home
