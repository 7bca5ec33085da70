use Rattle.spaces.proofs.OpeningTree.{opening-tree}
use Rattle.spaces.proofs.laws.opening_is_tree.Goals as goal

pub returns : goal.returns
returns c = opening-tree
