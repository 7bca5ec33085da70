use Rattle.walk.proofs.Members.{leaf_member}
use Rattle.walk.proofs.laws.leaf_maps_its_page.Goals as goal

pub returns : goal.returns
returns c = leaf_member
