use Rattle.counterexamples.proofs.HeadlineFacts.{order_all_lost, order_back_again, order_doubled, order_first_lost, order_kept, order_last_lost, order_never_posted, order_other_direction, order_swapped}
use Rattle.counterexamples.proofs.of_machines.order_is_of_each_mailbox.Goals as goal

pub returns-clause-kept : goal.returns-clause-kept
returns-clause-kept c = order_kept

pub returns-clause-swapped : goal.returns-clause-swapped
returns-clause-swapped c = order_swapped

pub returns-clause-first_lost : goal.returns-clause-first_lost
returns-clause-first_lost c = order_first_lost

pub returns-clause-last_lost : goal.returns-clause-last_lost
returns-clause-last_lost c = order_last_lost

pub returns-clause-all_lost : goal.returns-clause-all_lost
returns-clause-all_lost c = order_all_lost

pub returns-clause-doubled : goal.returns-clause-doubled
returns-clause-doubled c = order_doubled

pub returns-clause-back_again : goal.returns-clause-back_again
returns-clause-back_again c = order_back_again

pub returns-clause-never_posted : goal.returns-clause-never_posted
returns-clause-never_posted c = order_never_posted

pub returns-clause-other_direction : goal.returns-clause-other_direction
returns-clause-other_direction c = order_other_direction
