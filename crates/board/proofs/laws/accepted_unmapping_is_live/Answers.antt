use Rattle.board.proofs.Promises.{accepted_unmapping_is_live}
use Rattle.board.proofs.laws.accepted_unmapping_is_live.Goals as goal

pub returns : goal.returns
returns c = accepted_unmapping_is_live
