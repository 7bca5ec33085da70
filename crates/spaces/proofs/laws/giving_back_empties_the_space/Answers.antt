use Rattle.spaces.proofs.Emptying.{empties-space}
use Rattle.spaces.proofs.laws.giving_back_empties_the_space.Goals as goal

pub returns : goal.returns
returns c = λ l words holders fits tree s has. empties-space l fits words holders tree s has
