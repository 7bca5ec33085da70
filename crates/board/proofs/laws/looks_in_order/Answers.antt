use Rattle.board.proofs.Pinned.{looks_in_order}
use Rattle.board.proofs.laws.looks_in_order.Goals as goal

pub returns : goal.returns
returns c = looks_in_order
