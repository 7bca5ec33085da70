use Rattle.history.proofs.OpenOrders.{placed}
use Rattle.history.proofs.occurrences.order_at_is_the_one_opened_there.Goals as goal

pub returns : goal.returns
returns c = placed
