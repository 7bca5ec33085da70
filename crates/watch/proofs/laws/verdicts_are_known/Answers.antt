use Rattle.watch.proofs.ComputedTraces.{held_known, new_known, stale_known, verdict_known}
use Rattle.watch.proofs.laws.verdicts_are_known.Goals as goal

pub returns-clause-held : goal.returns-clause-held
returns-clause-held c = held_known

pub returns-clause-stale : goal.returns-clause-stale
returns-clause-stale c = stale_known

pub returns-clause-verdict : goal.returns-clause-verdict
returns-clause-verdict c = verdict_known

pub returns-clause-fresh : goal.returns-clause-fresh
returns-clause-fresh c = new_known
