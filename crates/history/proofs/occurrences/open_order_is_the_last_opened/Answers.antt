use Rattle.history.proofs.OpenOrders.{opened}
use Rattle.history.proofs.occurrences.open_order_is_the_last_opened.Goals as goal

pub returns : goal.returns
returns c = opened
