use Rattle.walk.proofs.Paths.{global_known}
use Rattle.walk.proofs.laws.global_is_known.Goals as goal

pub returns : goal.returns
returns c = global_known
