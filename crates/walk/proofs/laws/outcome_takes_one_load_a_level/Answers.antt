use Rattle.walk.proofs.Unique.{level_count_loads}
use Rattle.walk.proofs.laws.outcome_takes_one_load_a_level.Goals as goal

pub returns : goal.returns
returns c = level_count_loads
