use Rattle.views.proofs.Collected.{unmapped_own, unmapped_shared}
use Rattle.views.proofs.laws.unmapped_page_stays_unmapped.Goals as goal

pub returns-clause-own : goal.returns-clause-own
returns-clause-own c = unmapped_own

pub returns-clause-shared : goal.returns-clause-shared
returns-clause-shared c = unmapped_shared
