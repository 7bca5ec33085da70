use Rattle.scenario.proofs.StaleLemmas.{stale_so}
use Rattle.scenario.proofs.inspections.stale_of.Goals as goal

pub returns-clause-ok : goal.returns-clause-ok
returns-clause-ok c = rw c.finding_by_use.ensures (stale_so c.args.text.now _ _ _ c.in_ok-scenario.ensures c.in_ok-told.ensures.prints)
