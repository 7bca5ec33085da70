use Rattle.counterexamples.proofs.HeadlineFacts.{done_again, done_other, done_sender}
use Rattle.counterexamples.proofs.of_machines.clear_once_done_is_of_each_hart.Goals as goal

pub returns-clause-sender : goal.returns-clause-sender
returns-clause-sender c = done_sender

pub returns-clause-other : goal.returns-clause-other
returns-clause-other c = done_other

pub returns-clause-ticket_used_again : goal.returns-clause-ticket_used_again
returns-clause-ticket_used_again c = done_again
