use Rattle.watch_engine.proofs.Rechecks.{rechecked_again}
use Rattle.watch_engine.proofs.laws.recheck_is_idempotent.Goals as goal

pub returns : goal.returns
returns c = rechecked_again
