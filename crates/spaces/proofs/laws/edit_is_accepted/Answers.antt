use Rattle.spaces.proofs.EditLaws.{edit-accepted}
use Rattle.spaces.proofs.laws.edit_is_accepted.Goals as goal

pub returns : goal.returns
returns c = edit-accepted
