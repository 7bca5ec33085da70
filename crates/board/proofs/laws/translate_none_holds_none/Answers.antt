use Rattle.board.proofs.Promises.{translate_none_holds_none}
use Rattle.board.proofs.laws.translate_none_holds_none.Goals as goal

pub returns : goal.returns
returns c = translate_none_holds_none
