use Rattle.laws.proofs.Live.{waiting_live}
use Rattle.laws.proofs.laws.what_waits_is_live.Goals as goal

pub returns : goal.returns
returns c = waiting_live
