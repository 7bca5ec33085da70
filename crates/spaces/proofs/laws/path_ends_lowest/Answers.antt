use Rattle.spaces.proofs.EditLaws.{end-leads}
use Rattle.spaces.proofs.laws.path_ends_lowest.Goals as goal

pub returns : goal.returns
returns c = end-leads
