use Rattle.views.proofs.Collected.{collected_is_clean}
use Rattle.views.proofs.laws.collected_is_clean.Goals as goal

pub returns : goal.returns
returns c = collected_is_clean
