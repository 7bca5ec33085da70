use Rattle.watch_report.proofs.TriggerLaws.{no_warning, same_verdict}
use Rattle.watch_report.proofs.laws.each_warning_is_printed.Goals as goal

pub returns-clause-silent : goal.returns-clause-silent
returns-clause-silent c = no_warning

pub returns-clause-verdict : goal.returns-clause-verdict
returns-clause-verdict c = same_verdict
