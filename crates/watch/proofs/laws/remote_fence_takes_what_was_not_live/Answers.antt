use Rattle.watch.proofs.Fenced.{covered_by_addresses}
use Rattle.watch.proofs.laws.remote_fence_takes_what_was_not_live.Goals as goal

pub returns-clause-addresses : goal.returns-clause-addresses
returns-clause-addresses c = covered_by_addresses
