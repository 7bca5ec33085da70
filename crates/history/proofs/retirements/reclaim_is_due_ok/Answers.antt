use Rattle.history.proofs.Retiring.{can_reclaim}
use Rattle.history.proofs.retirements.reclaim_is_due_ok.Goals as goal

pub returns : goal.returns
returns c = λ C H hart space. can_reclaim C H hart space
