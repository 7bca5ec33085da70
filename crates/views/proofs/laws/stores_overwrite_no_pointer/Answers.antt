use Rattle.views.proofs.Tables.{no_pointer_lost}
use Rattle.views.proofs.laws.stores_overwrite_no_pointer.Goals as goal

pub returns : goal.returns
returns c = no_pointer_lost
