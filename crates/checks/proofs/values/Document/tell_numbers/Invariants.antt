use Rattle.checks.specs.Told.{IsStillTrue}
use Rattle.checks.proofs.values.Document.tell_numbers.Given as goal

abbrev pub invariant-loop-key : goal.invariant-loop-key
invariant-loop-key l = IsStillTrue l.fn.report.is_out_of_memory l.report.is_out_of_memory
