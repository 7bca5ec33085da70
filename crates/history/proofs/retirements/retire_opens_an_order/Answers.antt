use Rattle.history.proofs.Retired.{after_retire}
use Rattle.history.proofs.retirements.retire_opens_an_order.Goals as goal

pub returns : goal.returns
returns c = λ C H hart space ticket. after_retire C H hart space ticket
