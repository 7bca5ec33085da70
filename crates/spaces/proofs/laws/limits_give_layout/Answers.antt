use Rattle.spaces.proofs.Opened.{layout-meets}
use Rattle.spaces.proofs.laws.limits_give_layout.Goals as goal

pub returns : goal.returns
returns c = layout-meets
