-- The numbers that the rows of tickets and of mailboxes run to.
use Rattle.std.proofs.Common.{◌≡◌, refl}
use Rattle.shoot.specs.declared.TheConstants.{MAX_CAPACITY, MAX_TICKETS}
use Rattle.lines.specs.Sheet.{ticket_count, waiting_count}

pub tickets_are : ticket_count ≡ MAX_TICKETS
unfolding ticket_count
tickets_are = refl

pub waiting_are : waiting_count ≡ MAX_CAPACITY
unfolding waiting_count
waiting_are = refl
