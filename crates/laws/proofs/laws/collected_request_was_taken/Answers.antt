use Rattle.laws.proofs.Outstanding.{can_release}
use Rattle.laws.proofs.laws.collected_request_was_taken.Goals as goal

pub returns : goal.returns
returns c = can_release
