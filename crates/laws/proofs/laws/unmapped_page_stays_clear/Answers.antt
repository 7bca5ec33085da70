use Rattle.laws.proofs.Clearing.{clear}
use Rattle.laws.proofs.MapsKept.{stays_unmapped, user_plain}
use Rattle.laws.proofs.laws.unmapped_page_stays_clear.Goals as goal

pub returns : goal.returns
returns c = λ C setup. clear C setup (stays_unmapped C setup) (user_plain C setup)
