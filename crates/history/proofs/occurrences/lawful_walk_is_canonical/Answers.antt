use Rattle.history.proofs.Walks.{canonical_walk}
use Rattle.history.proofs.occurrences.lawful_walk_is_canonical.Goals as goal

pub returns : goal.returns
returns c = λ C H hart walk l. canonical_walk C H hart l walk
