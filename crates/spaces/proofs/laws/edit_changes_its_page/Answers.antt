use Rattle.spaces.proofs.EditLaws.{edit-effect}
use Rattle.spaces.proofs.laws.edit_changes_its_page.Goals as goal

pub returns : goal.returns
returns c = edit-effect
