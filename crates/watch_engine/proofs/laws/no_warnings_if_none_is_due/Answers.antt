use Rattle.watch_engine.proofs.WarningLaws.{none_due, only_empty}
use Rattle.watch_engine.proofs.laws.no_warnings_if_none_is_due.Goals as goal

pub returns-clause-none : goal.returns-clause-none
returns-clause-none c = none_due

pub returns-clause-only : goal.returns-clause-only
returns-clause-only c = only_empty
