use Rattle.history.proofs.Retiring.{can_retire}
use Rattle.history.proofs.retirements.retire_is_due_a_ticket.Goals as goal

pub returns : goal.returns
returns c = λ C H hart space ticket few. can_retire C H hart space ticket few
