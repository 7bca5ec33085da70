use Rattle.laws.proofs.Outstanding.{bounded, waiting_counted}
use Rattle.laws.proofs.laws.outstanding_is_bounded.Goals as goal

pub returns-clause-capacity : goal.returns-clause-capacity
returns-clause-capacity c = bounded

pub returns-clause-waiting : goal.returns-clause-waiting
returns-clause-waiting c = waiting_counted
