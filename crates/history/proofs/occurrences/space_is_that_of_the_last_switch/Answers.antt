use Rattle.history.proofs.Lasting.{space}
use Rattle.history.proofs.occurrences.space_is_that_of_the_last_switch.Goals as goal

pub returns : goal.returns
returns c = space
