use Rattle.laws.proofs.Clearing.{clear}
use Rattle.laws.proofs.Completed.{done_clear}
use Rattle.laws.proofs.MapsKept.{stays_unmapped, user_plain}
use Rattle.laws.proofs.done.done_unmapping_stays_clear.Goals as goal

pub returns : goal.returns
returns c = λ C setup H k h l pages. done_clear C H k h l (clear C setup (stays_unmapped C setup) (user_plain C setup) H k h l pages)
