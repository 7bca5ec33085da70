use Rattle.views.proofs.NoLeaf.{leaves_are_aligned}
use Rattle.views.proofs.laws.leaves_are_aligned.Goals as goal

pub returns : goal.returns
returns c = leaves_are_aligned
