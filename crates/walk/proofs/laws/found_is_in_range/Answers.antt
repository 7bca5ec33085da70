use Rattle.walk.proofs.FoundMembers.{found_in_range}
use Rattle.walk.proofs.laws.found_is_in_range.Goals as goal

pub returns : goal.returns
returns c = found_in_range
