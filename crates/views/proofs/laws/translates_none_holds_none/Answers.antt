use Rattle.views.proofs.Lasting.{translates_none_holds_none}
use Rattle.views.proofs.laws.translates_none_holds_none.Goals as goal

pub returns : goal.returns
returns c = translates_none_holds_none
