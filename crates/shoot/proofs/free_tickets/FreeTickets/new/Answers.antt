use Rattle.shoot.proofs.FreeTickets.{all_marked}
use Rattle.shoot.proofs.free_tickets.FreeTickets.new.Goals as goal

pub returns : goal.returns
returns c = all_marked
