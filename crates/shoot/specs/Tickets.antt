-- The tickets of a hart: what each says, what an opening answers, and what each call leaves.
use Rattle.std.specs.Prelude.{◌≡◌, ◌<◌, ℕ, Bool, true, false, List, Option, Some, None, is_some, is_none, Result, Ok, Err, IfSome, IsTrue, ◌==◌, slice_get, slice_set, length, position, replicate, if◌then◌else◌}
use Rattle.pte.specs.declared.address.What.{What}
use Rattle.shoot.specs.HartSet.{contains, difference, is_empty, byte_of, harts_in, no_harts}
use Rattle.pte.specs.declared.TheConstants.{MAX_HARTS}
use Rattle.shoot.specs.declared.TheConstants.{MAX_TICKETS}
use Rattle.shoot.specs.declared.tickets.Ticket.{Ticket}
use Rattle.shoot.specs.declared.tickets.Collected.{Collected}
use Rattle.shoot.specs.declared.tickets.Collected.TheVariants.{Done, Waiting}
use Rattle.shoot.specs.declared.tickets.TicketFault.{TicketFault}
use Rattle.shoot.specs.declared.tickets.TicketFault.TheVariants.{HomeNotNamed, NoTicket}
use Rattle.shoot.specs.declared.tickets.NotDone.{NotDone}

-- the hart, and its tickets by number: none where the number is free
pub record TicketTable : Type 0 where
  pub hart : ℕ
  pub tickets : List (Option Ticket)

abbrev pub no_tickets : ℕ → TicketTable
no_tickets hart = record { hart = hart; tickets = replicate MAX_TICKETS None }

-- the open ticket of a number
abbrev pub if_open : Option (Option Ticket) → Option Ticket
if_open None = None
if_open (Some ticket) = ticket

abbrev pub ticket_at : TicketTable → ℕ → Option Ticket
ticket_at table number = if_open (slice_get table.tickets number)

abbrev pub is_open : TicketTable → ℕ → Bool
is_open table number = is_some (ticket_at table number)

-- what an open ticket says of a hart; no for a number that is free
abbrev pub tells : (Ticket → List Bool) → Option Ticket → ℕ → Bool
tells set None hart = false
tells set (Some ticket) hart = contains (set ticket) hart

abbrev pub names : TicketTable → ℕ → ℕ → Bool
names table number hart = tells (λ ticket. ticket.named) (ticket_at table number) hart

abbrev pub ticket_posted : TicketTable → ℕ → ℕ → Bool
ticket_posted table number hart = tells (λ ticket. ticket.posted) (ticket_at table number) hart

abbrev pub ticket_acked : TicketTable → ℕ → ℕ → Bool
ticket_acked table number hart = tells (λ ticket. ticket.acked) (ticket_at table number) hart

abbrev pub ticket_collected : TicketTable → ℕ → ℕ → Bool
ticket_collected table number hart =
    tells (λ ticket. ticket.collected) (ticket_at table number) hart

abbrev pub asked : Option Ticket → Option What
asked None = None
asked (Some ticket) = Some ticket.what

abbrev pub what_at : TicketTable → ℕ → Option What
what_at table number = asked (ticket_at table number)

-- the named harts that are not collected, and how far the ticket is
abbrev pub uncollected : Ticket → List Bool
uncollected ticket = difference ticket.named ticket.collected

abbrev pub is_done : Ticket → Bool
is_done ticket = is_empty (uncollected ticket)

abbrev pub progress : Ticket → Collected
progress ticket = if is_done ticket then Done else Waiting (byte_of (uncollected ticket))

-- a ticket that was just opened for a set of harts, or for those of a byte
abbrev pub ticket_for : What → List Bool → Ticket
ticket_for what named = record {
  what = what;
  named = named;
  posted = no_harts;
  acked = no_harts;
  collected = no_harts;
}

abbrev pub new_ticket : What → ℕ → Ticket
new_ticket what named = ticket_for what (harts_in named)

-- a ticket once it was posted to a hart
abbrev pub with_posted : ℕ → Ticket → Ticket
with_posted to ticket = record ticket { posted = slice_set ticket.posted to true }

-- a ticket of the hart `home` once a hart acknowledged it: its own counts as collected at once
abbrev pub with_acked : ℕ → ℕ → Ticket → Ticket
with_acked home from ticket = record ticket {
  acked = slice_set ticket.acked from true;
  collected = if from == home then slice_set ticket.collected from true else ticket.collected;
}

-- a ticket once the acknowledgement of a hart is collected, if the hart has acknowledged
abbrev pub with_collected : ℕ → Ticket → Ticket
with_collected from ticket = record ticket {
  collected = if contains ticket.acked from then slice_set ticket.collected from true
      else ticket.collected;
}

-- the table with one number's ticket replaced, or changed if it is open
abbrev pub with_ticket : TicketTable → ℕ → Option Ticket → TicketTable
with_ticket table number ticket =
    record { hart = table.hart; tickets = slice_set table.tickets number ticket }

abbrev pub changed : (Ticket → Ticket) → Option Ticket → Option Ticket
changed change None = None
changed change (Some ticket) = Some (change ticket)

abbrev pub with_change : TicketTable → ℕ → (Ticket → Ticket) → TicketTable
with_change table number change = with_ticket table number (changed change (ticket_at table number))

-- the lowest number that is free
abbrev pub lowest_free : TicketTable → Option ℕ
lowest_free table = position is_none table.tickets

-- what an opening for a set of harts, or for those of a byte, answers, the first fault that
-- applies, and what it leaves
abbrev pub opened : Option ℕ → Result ℕ TicketFault
opened None = Err NoTicket
opened (Some number) = Ok number

abbrev pub answer_for : TicketTable → List Bool → Result ℕ TicketFault
answer_for table named =
    if contains named table.hart then opened (lowest_free table) else Err HomeNotNamed

abbrev pub open_answer : TicketTable → ℕ → Result ℕ TicketFault
open_answer table named = answer_for table (harts_in named)

abbrev pub with_opened : TicketTable → Result ℕ TicketFault → Ticket → TicketTable
with_opened table (Ok number) ticket = with_ticket table number (Some ticket)
with_opened table (Err fault) ticket = table

abbrev pub after_open_for : TicketTable → What → List Bool → TicketTable
after_open_for table what named = with_opened table (answer_for table named) (ticket_for what named)

abbrev pub after_open : TicketTable → What → ℕ → TicketTable
after_open table what named = after_open_for table what (harts_in named)

-- how far the ticket of a number is
abbrev pub progress_with : Option Ticket → Collected
progress_with None = Done
progress_with (Some ticket) = progress ticket

abbrev pub progress_at : TicketTable → ℕ → Collected
progress_at table number = progress_with (ticket_at table number)

abbrev pub after_posted : TicketTable → ℕ → ℕ → TicketTable
after_posted table number to = with_change table number (with_posted to)

abbrev pub after_acked : TicketTable → ℕ → ℕ → TicketTable
after_acked table number from = with_change table number (with_acked table.hart from)

-- the table once a hart acknowledged a ticket, if the ticket names it
abbrev pub acked_by : TicketTable → ℕ → ℕ → TicketTable
acked_by table number hart =
    if names table number hart then after_acked table number hart else table

abbrev pub after_collect : TicketTable → ℕ → ℕ → TicketTable
after_collect table number from = with_change table number (with_collected from)

-- a ticket is free again once it is done
abbrev pub done_with : Option Ticket → Bool
done_with None = false
done_with (Some ticket) = is_done ticket

abbrev pub is_done_at : TicketTable → ℕ → Bool
is_done_at table number = done_with (ticket_at table number)

abbrev pub finish_answer : TicketTable → ℕ → Result (Unit {0}) NotDone
finish_answer table number = if is_done_at table number then Ok tt else Err (record {})

abbrev pub after_finish : TicketTable → ℕ → TicketTable
after_finish table number = if is_done_at table number then with_ticket table number None else table

-- the harts that are collected have acknowledged the ticket, and so it is of each ticket of a hart
abbrev pub IsSound : Ticket → Type 0
IsSound ticket = (length ticket.acked ≡ MAX_HARTS)
    × ((hart : ℕ) → hart < MAX_HARTS → IsTrue (contains ticket.collected hart)
    → IsTrue (contains ticket.acked hart))

pub record AreSound (table : TicketTable) : Type 0 where
  pub count : length table.tickets ≡ MAX_TICKETS
  pub each : (number : ℕ) → IfSome (ticket_at table number) IsSound
