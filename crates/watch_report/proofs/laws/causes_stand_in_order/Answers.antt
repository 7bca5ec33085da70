use Rattle.watch_report.proofs.CauseOrder.{alike_causes, all_causes, causes_in_order}
use Rattle.watch_report.proofs.laws.causes_stand_in_order.Goals as goal

pub returns-clause-each : goal.returns-clause-each
returns-clause-each c = all_causes

pub returns-clause-order : goal.returns-clause-order
returns-clause-order c = causes_in_order

pub returns-clause-alike : goal.returns-clause-alike
returns-clause-alike c = alike_causes
