use Rattle.watch_report.proofs.trigger.trigger_of.Goals as goal

pub returns-in-ClaimEnd : goal.returns-in-ClaimEnd
returns-in-ClaimEnd c = λ records at are. rw c.in-ClaimEnd.is (c.claim_trigger.ensures records at are)
