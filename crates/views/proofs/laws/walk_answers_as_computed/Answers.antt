use Rattle.views.proofs.Lasting.{walk_answers_as_computed}
use Rattle.views.proofs.laws.walk_answers_as_computed.Goals as goal

pub returns : goal.returns
returns c = walk_answers_as_computed
