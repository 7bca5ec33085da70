use Rattle.history.proofs.Retired.{after_reclaim}
use Rattle.history.proofs.retirements.reclaim_gives_the_space_back.Goals as goal

pub returns : goal.returns
returns c = λ C H hart space. after_reclaim C H hart space
