use Rattle.board.proofs.Pinned.{new_ports_have_done_nothing}
use Rattle.board.proofs.laws.new_ports_have_done_nothing.Goals as goal

pub returns : goal.returns
returns c = new_ports_have_done_nothing
