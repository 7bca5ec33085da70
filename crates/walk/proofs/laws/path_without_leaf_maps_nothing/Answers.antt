use Rattle.walk.proofs.Members.{no_member}
use Rattle.walk.proofs.laws.path_without_leaf_maps_nothing.Goals as goal

pub returns : goal.returns
returns c = no_member
