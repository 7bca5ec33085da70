use Rattle.counterexamples.proofs.UsedFacts.{asids_before, asids_kept, asids_of_0, asids_of_1, asids_of_youngest}
use Rattle.counterexamples.proofs.of_machines.used_asids_are_of_each_hart_and_entry.Goals as goal

pub returns-clause-before : goal.returns-clause-before
returns-clause-before c = asids_before

pub returns-clause-kept : goal.returns-clause-kept
returns-clause-kept c = asids_kept

pub returns-clause-sender : goal.returns-clause-sender
returns-clause-sender c = asids_of_0

pub returns-clause-other : goal.returns-clause-other
returns-clause-other c = asids_of_1

pub returns-clause-youngest : goal.returns-clause-youngest
returns-clause-youngest c = asids_of_youngest
