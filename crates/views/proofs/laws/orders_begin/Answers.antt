use Rattle.views.proofs.Lasting.{orders_begin}
use Rattle.views.proofs.laws.orders_begin.Goals as goal

pub returns : goal.returns
returns c = orders_begin
