use Rattle.walk.proofs.Unique.{outcome_computed}
use Rattle.walk.proofs.laws.walk_on_its_path_computes_the_outcome.Goals as goal

pub returns : goal.returns
returns c = outcome_computed
