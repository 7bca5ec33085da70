use Rattle.counterexamples.proofs.TerapageEntries.{translated_until_service, none_translated_once_acknowledged}
use Rattle.counterexamples.proofs.runs.terapage_is_translated_until_service.Goals as goal

pub returns-clause-before : goal.returns-clause-before
returns-clause-before c = translated_until_service

pub returns-clause-acknowledged : goal.returns-clause-acknowledged
returns-clause-acknowledged c = none_translated_once_acknowledged
