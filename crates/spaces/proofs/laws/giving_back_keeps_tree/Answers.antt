use Rattle.spaces.proofs.Emptying.{tree-emptied}
use Rattle.spaces.proofs.laws.giving_back_keeps_tree.Goals as goal

pub returns : goal.returns
returns c = λ l words holders fits tree s has. tree-emptied l fits words holders tree s has
