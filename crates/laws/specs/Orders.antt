-- What is known of an order, and of the number under which it is open.
use Rattle.std.specs.Prelude.{ℕ, ◌≡◌, ◌<◌, true, length, Some}
use Rattle.shoot.specs.HartSet.{contains}
use Rattle.pte.specs.declared.TheConstants.{MAX_HARTS}
use Rattle.shoot.specs.declared.TheConstants.{MAX_TICKETS}
use Rattle.history.specs.Setup.{Setup}
use Rattle.history.specs.Turns.{Turn, History, is_ok}
use Rattle.history.specs.declared.event.Event.TheVariants.{Finish}
use Rattle.history.specs.Orders.{Order, order_at}

-- what is known of the order at a place of a history: the place is that of a turn, its ticket is
-- below 64, and it names its own sender and only harts that can be there
pub record IsOrder (history : History) (number : ℕ) (order : Order) : Type 0 where
  pub below : number < length history
  pub ticket_bound : order.ticket < MAX_TICKETS
  pub names_sender : order.sender < MAX_HARTS → contains order.named order.sender ≡ true
  pub names_harts : (hart : ℕ) → contains order.named hart ≡ true → hart < MAX_HARTS

-- the order was opened by this sender under this ticket
pub record IsOpenedBy (setup : Setup) (history : History) (s t number : ℕ) : Type 0 where
  pub order : Order
  pub is : order_at setup history number ≡ Some order
  pub sender : order.sender ≡ s
  pub ticket : order.ticket ≡ t

-- the turn is an accepted Finish of the ticket
pub record Finishes (turn : Turn) (s t : ℕ) : Type 0 where
  pub event : turn.event ≡ Finish s t
  pub accepted : is_ok turn.reply ≡ true
