use Rattle.laws.proofs.Asids.{retired_holds}
use Rattle.laws.proofs.laws.retired_space_is_not_held.Goals as goal

pub returns : goal.returns
returns c = λ C setup. retired_holds C setup
