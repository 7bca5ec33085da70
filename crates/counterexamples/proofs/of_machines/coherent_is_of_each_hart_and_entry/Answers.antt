use Rattle.counterexamples.proofs.HeadlineFacts.{coherent_again, coherent_every, coherent_flags, coherent_nothing, coherent_own_words, coherent_part, coherent_sender}
use Rattle.counterexamples.proofs.of_machines.coherent_is_of_each_hart_and_entry.Goals as goal

pub returns-clause-old_flags : goal.returns-clause-old_flags
returns-clause-old_flags c = coherent_flags

pub returns-clause-last_part : goal.returns-clause-last_part
returns-clause-last_part c = coherent_part

pub returns-clause-for_every_asid : goal.returns-clause-for_every_asid
returns-clause-for_every_asid c = coherent_every

pub returns-clause-nothing_mapped : goal.returns-clause-nothing_mapped
returns-clause-nothing_mapped c = coherent_nothing

pub returns-clause-sender : goal.returns-clause-sender
returns-clause-sender c = coherent_sender

pub returns-clause-ticket_used_again : goal.returns-clause-ticket_used_again
returns-clause-ticket_used_again c = coherent_again

pub returns-clause-own_words : goal.returns-clause-own_words
returns-clause-own_words c = coherent_own_words
