use Rattle.walk.proofs.FoundMembers.{found_member}
use Rattle.walk.proofs.laws.found_is_mapped.Goals as goal

pub returns : goal.returns
returns c = found_member
