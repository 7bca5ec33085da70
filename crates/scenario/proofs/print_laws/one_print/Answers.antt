use Rattle.scenario.proofs.PrintFacts.{one_run, one_walk}
use Rattle.scenario.proofs.print_laws.one_print.Goals as goal

pub returns-clause-walk : goal.returns-clause-walk
returns-clause-walk c = one_walk

pub returns-clause-run : goal.returns-clause-run
returns-clause-run c = one_run
