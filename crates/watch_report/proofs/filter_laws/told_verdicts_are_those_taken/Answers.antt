use Rattle.watch_report.proofs.FilterLaws.{told_before, told_is_taken}
use Rattle.watch_report.proofs.filter_laws.told_verdicts_are_those_taken.Goals as goal

pub returns-clause-newest : goal.returns-clause-newest
returns-clause-newest c = told_is_taken

pub returns-clause-before : goal.returns-clause-before
returns-clause-before c = told_before
