use Rattle.harts.proofs.Pinned.{worked_script}
use Rattle.harts.proofs.live_laws.worked_script.Goals as goal

pub returns : goal.returns
returns c = worked_script
