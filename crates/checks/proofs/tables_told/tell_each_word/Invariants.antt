use Rattle.checks.specs.Told.{IsStillTrue}
use Rattle.checks.proofs.tables_told.tell_each_word.Given as goal

abbrev pub invariant-loop-index : goal.invariant-loop-index
invariant-loop-index l = IsStillTrue l.fn.report.is_out_of_memory l.report.is_out_of_memory
