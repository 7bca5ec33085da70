use Rattle.walk.proofs.Stored.{leads_or_pass, leads_or_pass-back}
use Rattle.walk.proofs.laws.what_leads_passes_through_a_change.Goals as goal

pub returns-clause-after : goal.returns-clause-after
returns-clause-after c = λ scheme old new root va table index i t w but. leads_or_pass scheme old new root va table index but i t w

pub returns-clause-before : goal.returns-clause-before
returns-clause-before c = leads_or_pass-back
