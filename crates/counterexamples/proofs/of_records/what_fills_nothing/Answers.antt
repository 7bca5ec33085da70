use Rattle.counterexamples.proofs.Refuted.{goes_on, other_hart}
use Rattle.counterexamples.proofs.of_records.what_fills_nothing.Goals as goal

pub returns-clause-other_hart : goal.returns-clause-other_hart
returns-clause-other_hart c = other_hart

pub returns-clause-goes_on : goal.returns-clause-goes_on
returns-clause-goes_on c = goes_on
