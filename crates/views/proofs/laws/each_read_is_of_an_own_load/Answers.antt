use Rattle.views.proofs.OwnLoads.{each_read_is_of_an_own_load}
use Rattle.views.proofs.laws.each_read_is_of_an_own_load.Goals as goal

pub returns : goal.returns
returns c = each_read_is_of_an_own_load
