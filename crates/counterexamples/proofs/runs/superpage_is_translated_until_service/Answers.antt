use Rattle.counterexamples.proofs.SuperpageEntries.{translated_until_service, none_translated_once_acknowledged, none_translated_when_used_again}
use Rattle.counterexamples.proofs.runs.superpage_is_translated_until_service.Goals as goal

pub returns-clause-before : goal.returns-clause-before
returns-clause-before c = translated_until_service

pub returns-clause-acknowledged : goal.returns-clause-acknowledged
returns-clause-acknowledged c = none_translated_once_acknowledged

pub returns-clause-ticket_used_again : goal.returns-clause-ticket_used_again
returns-clause-ticket_used_again c = none_translated_when_used_again
