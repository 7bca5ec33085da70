use Rattle.watch.proofs.Judged.{had_at, taken_had, verdict-stale}
use Rattle.watch.proofs.laws.verdicts_are_of_stale_translations.Goals as goal

pub returns-clause-stale : goal.returns-clause-stale
returns-clause-stale c = verdict-stale

pub returns-clause-taken : goal.returns-clause-taken
returns-clause-taken c = taken_had

pub returns-clause-at : goal.returns-clause-at
returns-clause-at c = had_at
