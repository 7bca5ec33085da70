use Rattle.history.proofs.Retired.{after_create}
use Rattle.history.proofs.retirements.create_gives_the_asid.Goals as goal

pub returns : goal.returns
returns c = λ C H hart space asid. after_create C H hart space asid
