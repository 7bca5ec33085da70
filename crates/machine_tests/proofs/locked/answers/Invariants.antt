use Rattle.std.proofs.Common.{◌≡◌}
use Rattle.machine_tests.proofs.locked.answers.Given as goal

abbrev pub invariant-loop-step : goal.invariant-loop-step
invariant-loop-step g l = l.tally.turns.name ≡ l.initial.tally.turns.name
