use Rattle.history.proofs.LeastFree.{least_is}
use Rattle.history.proofs.occurrences.opening_takes_the_least_free_ticket.Goals as goal

pub returns-clause-least : goal.returns-clause-least
returns-clause-least c = λ H hart ticket. least_is H hart ticket
