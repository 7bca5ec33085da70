use Rattle.views.proofs.Lasting.{begins_live}
use Rattle.views.proofs.laws.unmapping_begins_live.Goals as goal

pub returns : goal.returns
returns c = begins_live
