use Rattle.laws.proofs.Orders.{open_stays}
use Rattle.laws.proofs.laws.orders_stay_open_until_finished.Goals as goal

pub returns : goal.returns
returns c = λ C turn H s t k l e. open_stays C turn.event turn.reply H s t k l.1 e
