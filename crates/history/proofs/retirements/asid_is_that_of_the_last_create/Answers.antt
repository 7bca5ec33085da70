use Rattle.history.proofs.Statuses.{asids}
use Rattle.history.proofs.retirements.asid_is_that_of_the_last_create.Goals as goal

pub returns : goal.returns
returns c = asids
