use Rattle.harts.proofs.Pinned.{worked_waits}
use Rattle.harts.proofs.live_laws.worked_waits.Goals as goal

pub returns : goal.returns
returns c = worked_waits
