use Rattle.spaces.proofs.EditLaws.{edit-tree}
use Rattle.spaces.proofs.laws.edit_keeps_tree.Goals as goal

pub returns : goal.returns
returns c = edit-tree
