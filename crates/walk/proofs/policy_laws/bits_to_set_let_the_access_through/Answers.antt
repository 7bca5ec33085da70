use Rattle.walk.proofs.SetLaws.{granted-exactly, nothing-exactly}
use Rattle.walk.proofs.policy_laws.bits_to_set_let_the_access_through.Goals as goal

pub returns-clause-granted : goal.returns-clause-granted
returns-clause-granted c = granted-exactly

pub returns-clause-nothing : goal.returns-clause-nothing
returns-clause-nothing c = nothing-exactly
