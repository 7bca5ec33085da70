use Rattle.views.proofs.Tables.{seats_are_numbered}
use Rattle.views.proofs.laws.seats_are_numbered.Goals as goal

pub returns : goal.returns
returns c = seats_are_numbered
