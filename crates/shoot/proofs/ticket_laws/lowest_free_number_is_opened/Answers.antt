use Rattle.shoot.proofs.TicketOpenings.{home_not_named, no_ticket, lowest}
use Rattle.shoot.proofs.ticket_laws.lowest_free_number_is_opened.Goals as goal

pub returns-clause-home : goal.returns-clause-home
returns-clause-home c = home_not_named

pub returns-clause-full : goal.returns-clause-full
returns-clause-full c = no_ticket

pub returns-clause-number : goal.returns-clause-number
returns-clause-number c = lowest
