use Rattle.counterexamples.proofs.LockFacts.{asid_of_17_bits, live, only_space_retires, switched}
use Rattle.counterexamples.proofs.of_locks.what_is_due_after_no_history.Goals as goal

pub returns-clause-switched : goal.returns-clause-switched
returns-clause-switched c = switched

pub returns-clause-only_space_retires : goal.returns-clause-only_space_retires
returns-clause-only_space_retires c = only_space_retires

pub returns-clause-live : goal.returns-clause-live
returns-clause-live c = live

pub returns-clause-asid_of_17_bits : goal.returns-clause-asid_of_17_bits
returns-clause-asid_of_17_bits c = asid_of_17_bits
