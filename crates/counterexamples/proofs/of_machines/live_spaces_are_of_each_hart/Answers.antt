use Rattle.counterexamples.proofs.UsedFacts.{space_of_0, space_of_1, space_retires, spaces_before, spaces_kept}
use Rattle.counterexamples.proofs.of_machines.live_spaces_are_of_each_hart.Goals as goal

pub returns-clause-before : goal.returns-clause-before
returns-clause-before c = spaces_before

pub returns-clause-kept : goal.returns-clause-kept
returns-clause-kept c = spaces_kept

pub returns-clause-sender : goal.returns-clause-sender
returns-clause-sender c = space_of_0

pub returns-clause-other : goal.returns-clause-other
returns-clause-other c = space_of_1

pub returns-clause-retiring : goal.returns-clause-retiring
returns-clause-retiring c = space_retires
