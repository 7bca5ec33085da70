use Rattle.watch_report.proofs.FilterLaws.{told_is_given}
use Rattle.watch_report.proofs.filter_laws.open_filter_takes_all.Goals as goal

pub returns-clause-told : goal.returns-clause-told
returns-clause-told c = told_is_given
