use Rattle.checks.specs.Told.{IsStillTrue}
use Rattle.checks.proofs.steps_told.tell_shape.Given as goal

abbrev pub invariant-loop-value : goal.invariant-loop-value
invariant-loop-value l = IsStillTrue l.fn.report.is_out_of_memory l.report.is_out_of_memory
