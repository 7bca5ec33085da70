use Rattle.board.proofs.Promises.{accepted_orders_begin}
use Rattle.board.proofs.laws.accepted_orders_begin.Goals as goal

pub returns : goal.returns
returns c = accepted_orders_begin
