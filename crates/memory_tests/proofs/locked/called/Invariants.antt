use Rattle.std.proofs.Common.{◌≡◌}
use Rattle.memory_tests.proofs.locked.called.Given as goal

abbrev pub invariant-loop-event : goal.invariant-loop-event
invariant-loop-event g l = l.tally.turns.name ≡ l.initial.tally.turns.name
