use Rattle.history.proofs.Retiring.{can_create}
use Rattle.history.proofs.retirements.create_is_due_ok.Goals as goal

pub returns : goal.returns
returns c = λ C H hart space asid. can_create C H hart space asid
