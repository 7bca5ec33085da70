use Rattle.watch_engine.proofs.WarningLaws.{as_long, as_many, only_one, says_the_same}
use Rattle.watch_engine.proofs.laws.warnings_say_the_same.Goals as goal

pub returns-clause-each : goal.returns-clause-each
returns-clause-each c = says_the_same

pub returns-clause-length : goal.returns-clause-length
returns-clause-length c = as_long

pub returns-clause-one : goal.returns-clause-one
returns-clause-one c = only_one

pub returns-clause-as_many : goal.returns-clause-as_many
returns-clause-as_many c = as_many
