use Rattle.watch.proofs.Gone.{nothing_exposed, nothing_stale, remote_nothing_stale}
use Rattle.watch.proofs.laws.fence_of_all_leaves_nothing_stale.Goals as goal

pub returns-clause-hart : goal.returns-clause-hart
returns-clause-hart c = nothing_stale

pub returns-clause-each : goal.returns-clause-each
returns-clause-each c = nothing_exposed

pub returns-clause-remote : goal.returns-clause-remote
returns-clause-remote c = remote_nothing_stale
