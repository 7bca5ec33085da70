-- What a port answers, and what a call leaves of it.
use Rattle.std.specs.Prelude.{ℕ, Bool, true, false, ◌&&◌, not, List, [], Option, Some, None, is_none, Result, Ok, Err, if◌then◌else◌, slice_set}
use Rattle.std.specs.Option.{option_map}
use Rattle.pte.specs.declared.address.What.{What}
use Rattle.pte.specs.declared.address.What.TheVariants.{All}
use Rattle.tlb.specs.Entries.{TlbState}
use Rattle.tlb.specs.Service.{after_service}
use Rattle.shoot.specs.Request.{Request}
use Rattle.shoot.specs.declared.mailbox.PostFault.{PostFault}
use Rattle.shoot.specs.declared.tickets.TicketFault.{TicketFault}
use Rattle.shoot.specs.declared.tickets.Collected.{Collected}
use Rattle.shoot.specs.Tickets.{TicketTable, is_open, names, ticket_posted, is_done_at, what_at, open_answer, progress_at, after_open, acked_by, after_acked, after_posted, after_collect, after_finish}
use Rattle.history.specs.declared.refusal.Refusal.{Refusal}
use Rattle.history.specs.declared.refusal.Refusal.TheVariants.{NoHart, NoSpace, NotOpen, NotNamed, AlreadyPosted, Closed, NotDone}
use Rattle.history.specs.declared.event.Scope.{Scope}
use Rattle.history.specs.Due.{are_pair, are_harts, is_number}
use Rattle.history.specs.declared.event.Scope.TheVariants as scope
use Rattle.history.specs.Orders.{scope_request}
use Rattle.history.specs.Refusal.{opening_refusal, posting_refusal}
use Rattle.history.specs.Setup.{Setup}
use Rattle.board.specs.Ends.{OutboxState, InboxState, post_fault, with_accepted, with_taken, after_close}
use Rattle.views.specs.OrderTurns.{acknowledged, ordered, self_acked, with_armed}
use Rattle.board.specs.Ports.{PortState, outbox_to, inbox_from}

-- refused if the test holds, else as the rest says
abbrev pub refused_if : Bool → Refusal → Option Refusal → Option Refusal
refused_if test refusal rest = if test then Some refusal else rest

-- what a refusal answers, and else the rest
abbrev pub answer_or : {X : Type 0} → Option Refusal → Result X Refusal → Result X Refusal
answer_or (Some refusal) rest = Err refusal
answer_or None rest = rest

-- the space of the scope exists; those of a board stay as they were opened
abbrev pub is_there : Setup → Scope → Bool
is_there setup (scope.Space s) = is_number setup s
is_there setup scope.All = true

-- Flush
abbrev pub flush_refusal : PortState → Scope → ℕ → Option Refusal
flush_refusal port scope named =
    refused_if (not (are_harts port.setup named)) NoHart
    (refused_if (not (is_there port.setup scope)) NoSpace None)

abbrev pub opened : Result ℕ TicketFault → Result ℕ Refusal
opened (Ok ticket) = Ok ticket
opened (Err fault) = Err (opening_refusal fault)

abbrev pub flush_answer : PortState → Scope → ℕ → Result ℕ Refusal
flush_answer port scope named =
    answer_or (flush_refusal port scope named) (opened (open_answer port.tickets named))

abbrev pub with_tickets : PortState → TicketTable → PortState
with_tickets port tickets = record port { tickets = tickets }

-- a port once a ticket was opened for this: its order is open in the view
abbrev pub after_ordered : PortState → What → ℕ → Result ℕ Refusal → PortState
after_ordered port what named (Ok ticket) =
    record port {
      view = ordered ticket what port.view;
      tickets = after_open port.tickets what named;
    }
after_ordered port what named (Err refusal) = port

abbrev pub after_flush : PortState → Scope → ℕ → PortState
after_flush port scope named =
    after_ordered port (scope_request port.setup [] scope) named (flush_answer port scope named)

-- Post: what the ticket and the two harts say, and then what the mailbox says
abbrev pub box_refusal : Option PostFault → Option Refusal
box_refusal None = None
box_refusal (Some fault) = Some (posting_refusal fault)

abbrev pub outbox_refusal : Option OutboxState → Option Refusal
outbox_refusal None = Some NoHart
outbox_refusal (Some outbox) = box_refusal (post_fault outbox)

abbrev pub ticket_refusal : PortState → ℕ → ℕ → Option Refusal
ticket_refusal port ticket to =
    refused_if (not (are_pair port.setup port.hart to)) NoHart
    (refused_if (not (is_open port.tickets ticket)) NotOpen
    (refused_if (not (names port.tickets ticket to)) NotNamed
    (refused_if (ticket_posted port.tickets ticket to) AlreadyPosted None)))

abbrev pub or_refusal : Option Refusal → Option Refusal → Option Refusal
or_refusal None rest = rest
or_refusal (Some refusal) rest = Some refusal

abbrev pub post_refusal : PortState → ℕ → ℕ → Option Refusal
post_refusal port ticket to =
    or_refusal (ticket_refusal port ticket to) (outbox_refusal (outbox_to port to))

-- how many free places of its ring an end knows of, and which requests it knows to wait
abbrev pub known_room : Option OutboxState → ℕ
known_room None = 0
known_room (Some outbox) = outbox.room

abbrev pub known_waiting : Option InboxState → List Request
known_waiting None = []
known_waiting (Some inbox) = inbox.known

-- the request of an open ticket
abbrev pub asked_or_all : Option What → What
asked_or_all None = All
asked_or_all (Some what) = what

abbrev pub request_of : TicketTable → ℕ → Request
request_of tickets ticket = record { ticket = ticket; what = asked_or_all (what_at tickets ticket) }

-- an end once it accepted a request, and one once it took one
abbrev pub outbox_with : Request → ℕ → Option OutboxState → Option OutboxState
outbox_with request room outbox = option_map (λ o. with_accepted o request room) outbox

abbrev pub inbox_with : Request → List Request → Option InboxState → Option InboxState
inbox_with request known inbox = option_map (λ i. with_taken i request known) inbox

-- a port once the request of a ticket was accepted: the cell was armed, and the end then knows of
-- `room` free places
abbrev pub after_post : PortState → ℕ → ℕ → ℕ → PortState
after_post port ticket to room = record port {
  view = with_armed ticket to port.view;
  tickets = after_posted port.tickets ticket to;
  outboxes = slice_set port.outboxes to (outbox_with (request_of port.tickets ticket) room
      (outbox_to port to));
}

-- a port whose post was refused: the cell was armed exactly if only the ring had no place
abbrev pub after_no_post : PortState → ℕ → ℕ → PortState
after_no_post port ticket to =
    if is_none (post_refusal port ticket to)
    then record port { view = with_armed ticket to port.view } else port

-- a TLB once a request was served
abbrev pub tlb_served : TlbState → What → TlbState
tlb_served tlb what = record tlb { entries = after_service tlb.entries what }

-- Serve: a port once it took a request, dropped what it names from its TLB and its view, and stored
-- its word to the sender's cell; the end then knows these to wait
abbrev pub after_serve : PortState → ℕ → Request → List Request → PortState
after_serve port from request known = record port {
  view = acknowledged from request.ticket request.what port.view;
  tlb = tlb_served port.tlb request.what;
  inboxes = slice_set port.inboxes from (inbox_with request known (inbox_from port from));
}

-- AckSelf: the hart acknowledges its own ticket, if that names it, and is collected in the view too
abbrev pub ack_self_answer : PortState → ℕ → Result Collected Refusal
ack_self_answer port ticket =
    if is_open port.tickets ticket
    then Ok (progress_at (acked_by port.tickets ticket port.hart) ticket) else Err NotOpen

abbrev pub after_ack_self : PortState → ℕ → PortState
after_ack_self port ticket =
    if is_open port.tickets ticket then record port {
      view = self_acked ticket (asked_or_all (what_at port.tickets ticket)) port.view;
      tickets = acked_by port.tickets ticket port.hart;
      tlb = tlb_served port.tlb (asked_or_all (what_at port.tickets ticket));
    } else port

-- Collect: a hart whose cell had the word of the ticket's request has acknowledged it, and is
-- collected
abbrev pub collected_by : TicketTable → ℕ → ℕ → TicketTable
collected_by tickets ticket from = after_collect (after_acked tickets ticket from) ticket from

-- Finish
abbrev pub finish_answer : PortState → ℕ → Result (Unit {0}) Refusal
finish_answer port ticket =
    answer_or
    (refused_if (not (is_open port.tickets ticket)) NotOpen
    (refused_if (not (is_done_at port.tickets ticket)) NotDone None))
    (Ok tt)

abbrev pub after_finish_of : PortState → ℕ → PortState
after_finish_of port ticket =
    if is_open port.tickets ticket then with_tickets port (after_finish port.tickets ticket)
    else port

-- Close
abbrev pub is_closed_to : Option OutboxState → Bool
is_closed_to None = false
is_closed_to (Some outbox) = outbox.closed

abbrev pub close_answer : PortState → ℕ → Result (Unit {0}) Refusal
close_answer port to =
    answer_or
    (refused_if (not (are_pair port.setup port.hart to)) NoHart
    (refused_if (is_closed_to (outbox_to port to)) Closed None))
    (Ok tt)

abbrev pub after_close_to : PortState → ℕ → PortState
after_close_to port to =
    if are_pair port.setup port.hart to && not (is_closed_to (outbox_to port to))
    then record port {
      outboxes =
          slice_set port.outboxes to (option_map after_close (outbox_to port to));
    } else port
