use Rattle.watch.proofs.Judged.{later_same, newest_holds, number-below}
use Rattle.watch.proofs.laws.later_records_change_no_verdict.Goals as goal

pub returns-clause-later : goal.returns-clause-later
returns-clause-later c = later_same

pub returns-clause-newest : goal.returns-clause-newest
returns-clause-newest c = newest_holds

pub returns-clause-there : goal.returns-clause-there
returns-clause-there c = number-below
