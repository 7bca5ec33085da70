use Rattle.walk.proofs.Unique.{outcome_unique}
use Rattle.walk.proofs.laws.outcome_is_unique.Goals as goal

pub returns : goal.returns
returns c = outcome_unique
