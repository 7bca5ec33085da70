use Rattle.melissaledge_c.proofs.WalkNumbers.{one_walk}
use Rattle.melissaledge_c.proofs.walks.numbers_are_of_one_walk.Goals as goal

pub returns : goal.returns
returns c = one_walk
