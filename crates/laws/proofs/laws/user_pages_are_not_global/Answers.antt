use Rattle.laws.proofs.MapsKept.{user_plain}
use Rattle.laws.proofs.laws.user_pages_are_not_global.Goals as goal

pub returns : goal.returns
returns c = user_plain
