use Rattle.std.proofs.Common.{◌≡◌}
use Rattle.draw.proofs.run.Recorder.note_items.Given as goal

abbrev pub invariant-loop-at : goal.invariant-loop-at
invariant-loop-at l = l.self.record.rows ≡ l.fn.self.record.rows
