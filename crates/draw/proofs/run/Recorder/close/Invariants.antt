use Rattle.std.proofs.Common.{◌≡◌}
use Rattle.draw.proofs.run.Recorder.close.Given as goal

abbrev pub invariant-loop-track : goal.invariant-loop-track
invariant-loop-track l = l.self.1.0.rows ≡ l.fn.self.record.rows
