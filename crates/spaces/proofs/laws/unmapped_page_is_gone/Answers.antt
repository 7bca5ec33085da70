use Rattle.spaces.proofs.EditLaws.{unmapped-gone}
use Rattle.spaces.proofs.laws.unmapped_page_is_gone.Goals as goal

pub returns : goal.returns
returns c = unmapped-gone
