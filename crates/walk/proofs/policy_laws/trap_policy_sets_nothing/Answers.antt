use Rattle.walk.proofs.SetLaws.{trap-plain}
use Rattle.walk.proofs.policy_laws.trap_policy_sets_nothing.Goals as goal

pub returns : goal.returns
returns c = trap-plain
