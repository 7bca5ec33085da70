use Rattle.std.proofs.Common.{◌≡◌, length}
use Rattle.workloads.proofs.machine.config.Given as goal

abbrev pub invariant-loop-home : goal.invariant-loop-home
invariant-loop-home l = length l.spaces.items ≡ l.home
