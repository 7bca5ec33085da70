use Rattle.laws.proofs.Asids.{asids_differ}
use Rattle.laws.proofs.laws.used_asids_differ.Goals as goal

pub returns : goal.returns
returns c = λ C setup. asids_differ C setup
