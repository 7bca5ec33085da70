use Rattle.stale.proofs.report.tell_change.Goals as goal

pub returns-clause-told : goal.returns-clause-told
returns-clause-told c = rw c.in-Some.is (rw c.in-Opened.is c.tell_tlbs.ensures.told)

pub returns-clause-once : goal.returns-clause-once
returns-clause-once c = rw c.in-Some.is (rw c.in-Opened.is c.tell_tlbs.ensures.once)
