-- What ties a port's tickets to the orders of its view and to its ends.
use Rattle.std.specs.Prelude.{ℕ, ◌≡◌, ◌≢◌, ◌+◌, ◌&&◌, Bool, true, false, not, List, [], ◌∷◌, length, Option, Some, None, if◌then◌else◌}
use Rattle.shoot.specs.HartSet.{contains}
use Rattle.pte.specs.declared.TheConstants.{MAX_HARTS}
use Rattle.shoot.specs.declared.tickets.Ticket.{Ticket}
use Rattle.shoot.specs.Tickets.{TicketTable, ticket_at}
use Rattle.board.specs.Ends.{OutboxState}
use Rattle.spaces.specs.declared.configuration.Config.{Config}
use Rattle.views.specs.declared.view.Order.{Order}
use Rattle.views.specs.Orders.{asked, is_in}
use Rattle.views.specs.OrderTurns.{order_of_ticket}
use Rattle.board.specs.Ports.{element}

-- the order under an open ticket asks for what the ticket asks; the cell of each hart that the
-- ticket was posted to was armed for it; and of the named harts it has collected just those that
-- the ticket has
pub record IsOrderOf (c : Config) (ticket : Ticket) (order : Order) : Type 0 where
  pub asks : asked c order.cause ≡ ticket.what
  pub armed : (hart : ℕ) → contains ticket.posted hart ≡ true → is_in hart order.armed ≡ true
  pub collected : (hart : ℕ) → contains ticket.named hart ≡ true
      → is_in hart order.collected ≡ contains ticket.collected hart

-- the ticket's sets are sets of harts; it was posted to harts that it names alone, and a hart other
-- than its own is collected only where it was posted to
pub record IsWhole (home : ℕ) (ticket : Ticket) : Type 0 where
  pub named_harts : length ticket.named ≡ MAX_HARTS
  pub posted_harts : length ticket.posted ≡ MAX_HARTS
  pub acked_harts : length ticket.acked ≡ MAX_HARTS
  pub collected_harts : length ticket.collected ≡ MAX_HARTS
  pub posted : (hart : ℕ) → contains ticket.posted hart ≡ true → contains ticket.named hart ≡ true
  pub collected : (hart : ℕ) → hart ≢ home → contains ticket.collected hart ≡ true
      → contains ticket.posted hart ≡ true

-- the ticket of a number, if it is open, has this open order
abbrev pub IsTied : Config → ℕ → Option Ticket → Option Order → Type 0
IsTied c home None order = Unit {0}
IsTied c home (Some ticket) None = ⊥
IsTied c home (Some ticket) (Some order) = IsWhole home ticket × IsOrderOf c ticket order

-- so it is with each ticket
pub record AreTied (c : Config) (orders : List Order) (tickets : TicketTable) : Type 0 where
  pub each : (n : ℕ) → IsTied c tickets.hart (ticket_at tickets n) (order_of_ticket n orders)

-- the ticket was posted to the hart, and the hart is not collected
abbrev pub awaits : ℕ → Option Ticket → Bool
awaits hart None = false
awaits hart (Some ticket) = contains ticket.posted hart && not (contains ticket.collected hart)

-- how many of them there are
abbrev pub one_if : Bool → ℕ
one_if b = if b then 1 else 0

abbrev pub count_awaiting : ℕ → List (Option Ticket) → ℕ
count_awaiting hart [] = 0
count_awaiting hart (ticket ∷ tickets) = one_if (awaits hart ticket) + count_awaiting hart tickets

-- an end has this many requests outstanding
abbrev pub HasOutstanding : ℕ → Option OutboxState → Type 0
HasOutstanding count None = Unit {0}
HasOutstanding count (Some outbox) = outbox.outstanding ≡ count

-- what is outstanding at each end is what was posted by it and not collected
pub record AreCounted (tickets : TicketTable) (outboxes : List (Option OutboxState)) : Type 0 where
  pub each : (hart : ℕ) → hart ≢ tickets.hart
      → HasOutstanding (count_awaiting hart tickets.tickets) (element outboxes hart)
