use Rattle.spaces.proofs.EditLaws.{map-keeps}
use Rattle.spaces.proofs.laws.map_keeps_mappings.Goals as goal

pub returns : goal.returns
returns c = map-keeps
