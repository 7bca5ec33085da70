use Rattle.tlb.proofs.Serving.{is_served-Goes, served-Served, Served-unique}
use Rattle.tlb.proofs.laws.service_is_its_fences.Goals as goal

pub returns-clause-goes : goal.returns-clause-goes
returns-clause-goes c = is_served-Goes

pub returns-clause-leaves : goal.returns-clause-leaves
returns-clause-leaves c = served-Served

pub returns-clause-alone : goal.returns-clause-alone
returns-clause-alone c = Served-unique
