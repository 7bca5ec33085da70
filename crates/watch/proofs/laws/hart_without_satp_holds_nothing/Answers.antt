use Rattle.watch.proofs.Gone.{nothing_held}
use Rattle.watch.proofs.laws.hart_without_satp_holds_nothing.Goals as goal

pub returns : goal.returns
returns c = nothing_held
