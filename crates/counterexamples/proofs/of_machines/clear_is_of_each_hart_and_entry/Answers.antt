use Rattle.counterexamples.proofs.HeadlineFacts.{clear_again, clear_global, clear_other, clear_sender, clear_youngest}
use Rattle.counterexamples.proofs.of_machines.clear_is_of_each_hart_and_entry.Goals as goal

pub returns-clause-sender : goal.returns-clause-sender
returns-clause-sender c = clear_sender

pub returns-clause-other : goal.returns-clause-other
returns-clause-other c = clear_other

pub returns-clause-youngest : goal.returns-clause-youngest
returns-clause-youngest c = clear_youngest

pub returns-clause-global : goal.returns-clause-global
returns-clause-global c = clear_global

pub returns-clause-ticket_used_again : goal.returns-clause-ticket_used_again
returns-clause-ticket_used_again c = clear_again
