use Rattle.laws.proofs.Asids.{live_hart}
use Rattle.laws.proofs.laws.harts_are_in_live_spaces.Goals as goal

pub returns : goal.returns
returns c = λ C setup H h l there. live_hart C setup H h l there
