use Rattle.spaces.proofs.Homes.{home-unique}
use Rattle.spaces.proofs.laws.home_is_one.Goals as goal

pub returns : goal.returns
returns c = home-unique
