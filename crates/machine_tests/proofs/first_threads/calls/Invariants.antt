use Rattle.std.proofs.Common.{◌≡◌}
use Rattle.machine_tests.proofs.first_threads.calls.Given as goal

abbrev pub invariant-loop-event : goal.invariant-loop-event
invariant-loop-event g l = l.tally.turns.name ≡ l.fn.tally.turns.name
