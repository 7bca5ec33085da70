use Rattle.spaces.proofs.Stages.{continues-words}
use Rattle.spaces.proofs.edit_walk_laws.edit_walk_continues.Goals as goal

pub returns : goal.returns
returns c = continues-words
