use Rattle.laws.proofs.Orders.{known}
use Rattle.laws.proofs.laws.orders_are_known.Goals as goal

pub returns : goal.returns
returns c = known
