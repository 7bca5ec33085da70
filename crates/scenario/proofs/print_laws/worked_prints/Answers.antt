use Rattle.scenario.proofs.PrintFacts.{faulty_prints, run_prints, walk_prints}
use Rattle.scenario.proofs.print_laws.worked_prints.Goals as goal

pub returns-clause-walk : goal.returns-clause-walk
returns-clause-walk c = walk_prints

pub returns-clause-run : goal.returns-clause-run
returns-clause-run c = run_prints

pub returns-clause-faulty : goal.returns-clause-faulty
returns-clause-faulty c = faulty_prints
