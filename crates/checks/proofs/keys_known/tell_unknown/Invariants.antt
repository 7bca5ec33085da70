use Rattle.checks.specs.Told.{IsStillTrue}
use Rattle.checks.proofs.keys_known.tell_unknown.Given as goal

abbrev pub invariant-loop-key : goal.invariant-loop-key
invariant-loop-key l = IsStillTrue l.fn.report.is_out_of_memory l.report.is_out_of_memory
