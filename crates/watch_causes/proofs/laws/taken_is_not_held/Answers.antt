use Rattle.watch_causes.proofs.Taken.{taken-not-held}
use Rattle.watch_causes.proofs.laws.taken_is_not_held.Goals as goal

pub returns : goal.returns
returns c = taken-not-held c.what_is_mapped_is_not_stale.ensures.live
