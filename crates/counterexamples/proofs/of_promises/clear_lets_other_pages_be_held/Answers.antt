use Rattle.counterexamples.proofs.ClearFacts.{other_asid}
use Rattle.counterexamples.proofs.of_promises.clear_lets_other_pages_be_held.Goals as goal

pub returns-clause-other_space : goal.returns-clause-other_space
returns-clause-other_space c = other_asid
