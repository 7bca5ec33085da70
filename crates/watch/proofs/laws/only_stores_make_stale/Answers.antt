use Rattle.watch.proofs.Gone.{stale-before, stale-held}
use Rattle.watch.proofs.laws.only_stores_make_stale.Goals as goal

pub returns-clause-held : goal.returns-clause-held
returns-clause-held c = stale-held

pub returns-clause-stale : goal.returns-clause-stale
returns-clause-stale c = stale-before
