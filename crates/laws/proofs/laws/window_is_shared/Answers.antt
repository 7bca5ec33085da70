use Rattle.laws.proofs.MapsKept.{window_shared}
use Rattle.laws.proofs.laws.window_is_shared.Goals as goal

pub returns : goal.returns
returns c = window_shared
