use Rattle.history.proofs.InWalk.{in_walk}
use Rattle.history.proofs.occurrences.walk_is_since_its_begin.Goals as goal

pub returns : goal.returns
returns c = in_walk
