use Rattle.laws.proofs.PointersKept.{pointer_stays}
use Rattle.laws.proofs.done.pointer_stays_until_given_back.Goals as goal

pub returns : goal.returns
returns c = pointer_stays
