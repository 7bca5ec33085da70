use Rattle.walk.proofs.Stored.{on_path_kept}
use Rattle.walk.proofs.laws.walk_stays_on_its_path.Goals as goal

pub returns : goal.returns
returns c = on_path_kept
