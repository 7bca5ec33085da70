use Rattle.laws.proofs.Acknowledged.{acked_posted, collected_acked}
use Rattle.laws.proofs.laws.acknowledged_was_posted.Goals as goal

pub returns-clause-collected : goal.returns-clause-collected
returns-clause-collected c = collected_acked

pub returns-clause-acked : goal.returns-clause-acked
returns-clause-acked c = acked_posted
