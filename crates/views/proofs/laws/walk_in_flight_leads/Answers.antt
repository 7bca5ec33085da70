use Rattle.views.proofs.Tables.{walk-leads}
use Rattle.views.proofs.laws.walk_in_flight_leads.Goals as goal

pub returns-clause-path : goal.returns-clause-path
returns-clause-path c k s b j v st at walking = (walk-leads k s b.tables j v st at walking).on

pub returns-clause-reads : goal.returns-clause-reads
returns-clause-reads c k s b j v st at walking = (walk-leads k s b.tables j v st at walking).has
