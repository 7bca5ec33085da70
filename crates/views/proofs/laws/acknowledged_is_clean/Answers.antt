use Rattle.views.proofs.Collected.{acknowledged_is_clean}
use Rattle.views.proofs.laws.acknowledged_is_clean.Goals as goal

pub returns : goal.returns
returns c = acknowledged_is_clean
