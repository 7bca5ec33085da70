use Rattle.watch.proofs.Held.{held_since}
use Rattle.watch.proofs.laws.held_was_live_and_not_dropped_since.Goals as goal

pub returns : goal.returns
returns c = held_since
