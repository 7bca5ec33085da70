use Rattle.laws.proofs.Fresh.{fill_maps}
use Rattle.laws.proofs.laws.filled_pages_are_mapped.Goals as goal

pub returns : goal.returns
returns c = fill_maps
