use Rattle.shoot.proofs.TicketLaws.{new_sound, opened_sound, posted_sound, acked_sound, collected_sound, finished_sound}
use Rattle.shoot.proofs.ticket_laws.tickets_stay_sound.Goals as goal

pub returns-clause-new : goal.returns-clause-new
returns-clause-new c = new_sound

pub returns-clause-open : goal.returns-clause-open
returns-clause-open c = opened_sound

pub returns-clause-posted : goal.returns-clause-posted
returns-clause-posted c = posted_sound

pub returns-clause-acked : goal.returns-clause-acked
returns-clause-acked c = acked_sound

pub returns-clause-collect : goal.returns-clause-collect
returns-clause-collect c = collected_sound

pub returns-clause-finish : goal.returns-clause-finish
returns-clause-finish c = finished_sound
