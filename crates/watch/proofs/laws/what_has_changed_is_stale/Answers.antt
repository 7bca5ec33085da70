use Rattle.watch.proofs.Gone.{changed-stale, own-stale, unmapped-stale}
use Rattle.watch.proofs.laws.what_has_changed_is_stale.Goals as goal

pub returns-clause-unmapped : goal.returns-clause-unmapped
returns-clause-unmapped c = unmapped-stale

pub returns-clause-changed : goal.returns-clause-changed
returns-clause-changed c = changed-stale

pub returns-clause-of_its_root : goal.returns-clause-of_its_root
returns-clause-of_its_root c = own-stale
