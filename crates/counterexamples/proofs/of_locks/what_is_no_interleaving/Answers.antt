use Rattle.counterexamples.proofs.LockFacts.{one_less, one_more, one_of_none, swapped, woven}
use Rattle.counterexamples.proofs.of_locks.what_is_no_interleaving.Goals as goal

pub returns-clause-woven : goal.returns-clause-woven
returns-clause-woven c = woven

pub returns-clause-one_more : goal.returns-clause-one_more
returns-clause-one_more c = one_more

pub returns-clause-one_of_none : goal.returns-clause-one_of_none
returns-clause-one_of_none c = one_of_none

pub returns-clause-one_less : goal.returns-clause-one_less
returns-clause-one_less c = one_less

pub returns-clause-swapped : goal.returns-clause-swapped
returns-clause-swapped c = swapped
