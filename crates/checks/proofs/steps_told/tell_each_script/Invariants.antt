use Rattle.checks.specs.Told.{IsStillTrue}
use Rattle.checks.proofs.steps_told.tell_each_script.Given as goal

abbrev pub invariant-loop-hart : goal.invariant-loop-hart
invariant-loop-hart l = IsStillTrue l.fn.report.is_out_of_memory l.report.is_out_of_memory
