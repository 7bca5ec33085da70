use Rattle.std.proofs.Common.{◌≡◌}
use Rattle.std.specs.Prelude.{vec_len}
use Rattle.draw.proofs.run.record.Given as goal

abbrev pub invariant-loop-event : goal.invariant-loop-event
invariant-loop-event l = vec_len l.recorder.record.rows ≡ l.event-index
