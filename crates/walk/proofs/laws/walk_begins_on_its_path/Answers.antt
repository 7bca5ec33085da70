use Rattle.walk.proofs.Ending.{on_path-start}
use Rattle.walk.proofs.laws.walk_begins_on_its_path.Goals as goal

pub returns : goal.returns
returns c = on_path-start
