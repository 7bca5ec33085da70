use Rattle.walk.proofs.FoundMembers.{found_page_member}
use Rattle.walk.proofs.laws.found_page_is_mapped.Goals as goal

pub returns : goal.returns
returns c = found_page_member
