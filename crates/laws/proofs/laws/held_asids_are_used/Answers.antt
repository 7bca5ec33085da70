use Rattle.laws.proofs.Asids.{holds_used}
use Rattle.laws.proofs.laws.held_asids_are_used.Goals as goal

pub returns : goal.returns
returns c = λ C setup. holds_used C setup
