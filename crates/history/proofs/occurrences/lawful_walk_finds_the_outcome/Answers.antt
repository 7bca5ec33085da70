use Rattle.history.proofs.Walks.{walk_outcome}
use Rattle.history.proofs.occurrences.lawful_walk_finds_the_outcome.Goals as goal

pub returns : goal.returns
returns c = walk_outcome
