use Rattle.board.proofs.Pinned.{counts_add_up}
use Rattle.board.proofs.laws.counts_add_up.Goals as goal

pub returns : goal.returns
returns c = counts_add_up
