-- What a sender's look for acknowledgements leaves of its port.
use Rattle.std.specs.Prelude.{ℕ, ◌≡◌, ◌==◌, ◌&&◌, Bool, true, false, List, [], ◌∷◌, length, Some, slice_set, if◌then◌else◌}
use Rattle.std.specs.Option.{option_map}
use Rattle.shoot.specs.Tickets.{names, ticket_at}
use Rattle.shoot.specs.Acknowledgement.{acknowledgement}
use Rattle.history.specs.Due.{are_pair}
use Rattle.board.specs.Ends.{after_release}
use Rattle.views.specs.declared.view.Order.{Order}
use Rattle.views.specs.Orders.{is_in}
use Rattle.views.specs.OrderTurns.{looked, order_of_ticket}
use Rattle.board.specs.Ports.{PortState, outbox_to}
use Rattle.board.specs.Answers.{collected_by, request_of}
use Rattle.board.specs.Ties.{awaits}

-- the ticket was posted to another hart, which is not collected
abbrev pub is_awaiting : PortState → ℕ → ℕ → Bool
is_awaiting port ticket from =
    are_pair port.setup port.hart from && awaits from (ticket_at port.tickets ticket)

-- a port that looked at the cell of a hart and found this word. If it is that of the request, the
-- hart is collected in the view and by the ticket, and its mailbox has room for one more.
abbrev pub after_look : PortState → ℕ → ℕ → Bool → ℕ → PortState
after_look port ticket from is_found word =
    if is_found then record port {
      view = looked ticket from true word port.view;
      tickets = collected_by port.tickets ticket from;
      outboxes = slice_set port.outboxes from (option_map after_release (outbox_to port from));
    } else record port { view = looked ticket from false word port.view }

-- the word by which a hart acknowledges the ticket's request
abbrev pub awaited_word : PortState → ℕ → ℕ
awaited_word port ticket = acknowledgement (request_of port.tickets ticket).what

-- a port that looked at the cell of a hart, where this word stood, if the hart was awaited
abbrev pub look_at : PortState → ℕ → ℕ → ℕ → PortState
look_at port ticket from word =
    if is_awaiting port ticket from
    then after_look port ticket from (word == awaited_word port ticket) word else port

-- a port that looked at the cells of the harts from 0 on, where these words stood, that of the
-- highest hart first
abbrev pub after_looks : PortState → ℕ → List ℕ → PortState
after_looks port ticket [] = port
after_looks port ticket (word ∷ words) =
    look_at (after_looks port ticket words) ticket (length words) word

-- the port once it looked at the cell of each hart below a bound that was awaited
pub record IsCollected (port : PortState) (ticket bound : ℕ) (after : PortState) : Type 0 where
  pub words : List ℕ
  pub each : length words ≡ bound
  pub is : after ≡ after_looks port ticket words

-- each hart that the ticket names is collected for its open order in the view
abbrev pub AreAllCollected : PortState → ℕ → Type 0
AreAllCollected port ticket =
    (order : Order) → order_of_ticket ticket port.view.orders ≡ Some order → (hart : ℕ)
    → names port.tickets ticket hart ≡ true → is_in hart order.collected ≡ true

-- so it looks at no hart below 0, at hart 0 alone below 1, and at hart 0 and then at hart 1 below 2
abbrev pub LooksInOrder : Type 0
LooksInOrder =
    (port after : PortState) (ticket : ℕ) →
    (IsCollected port ticket 0 after → after ≡ port)
    × (IsCollected port ticket 1 after → (word : ℕ) × (after ≡ look_at port ticket 0 word))
    × (IsCollected port ticket 2 after
    → (first second : ℕ) × (after ≡ look_at (look_at port ticket 0 first) ticket 1 second))
