use Rattle.spaces.proofs.EditLaws.{edit-home}
use Rattle.spaces.proofs.laws.edit_stays_at_home.Goals as goal

pub returns : goal.returns
returns c = edit-home
