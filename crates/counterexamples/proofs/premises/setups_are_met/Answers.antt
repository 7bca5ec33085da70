use Rattle.counterexamples.proofs.PremisesMet.{one_space, two_spaces, one_home}
use Rattle.counterexamples.proofs.premises.setups_are_met.Goals as goal

pub returns-clause-one_space : goal.returns-clause-one_space
returns-clause-one_space c = one_space

pub returns-clause-two_spaces : goal.returns-clause-two_spaces
returns-clause-two_spaces c = two_spaces

pub returns-clause-one_home : goal.returns-clause-one_home
returns-clause-one_home c = one_home
