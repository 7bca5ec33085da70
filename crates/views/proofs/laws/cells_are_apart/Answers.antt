use Rattle.views.proofs.Lasting.{cells_are_apart}
use Rattle.views.proofs.laws.cells_are_apart.Goals as goal

pub returns : goal.returns
returns c = cells_are_apart
