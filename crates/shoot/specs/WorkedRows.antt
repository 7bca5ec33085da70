-- Worked rows: lists of calls on a mailbox, newest first, with the answers that are due by hand;
-- what tickets answer after some calls; and the words of some requests, worked out bit by bit.
use Rattle.std.specs.Prelude.{◌≡◌, ℕ, zero, suc, Bool, true, false, List, [], ◌∷◌, map, Some, None, Ok, Err}
use Rattle.pte.specs.declared.address.PageSize.TheVariants.{Kib4, Mib2, Gib512}
use Rattle.pte.specs.declared.address.What.TheVariants.{PageOf, SpaceOf, All}
use Rattle.shoot.specs.Acknowledgement.{acknowledgement}
use Rattle.shoot.specs.HartSet.{byte_of, harts_in}
use Rattle.shoot.specs.Request.{Request}
use Rattle.shoot.specs.Mailbox.{can_release}
use Rattle.shoot.specs.MailboxHistory.{Post, Take, Release, Close, IsLawful, mailbox_after}
use Rattle.shoot.specs.Tickets.{TicketTable, no_tickets, is_open, names, open_answer, progress_at, finish_answer, what_at, ticket_acked, ticket_posted, ticket_collected, is_done_at, after_open, after_posted, after_acked, after_collect, after_finish}
use Rattle.shoot.specs.declared.mailbox.PostFault.TheVariants.{Closed, Full}
use Rattle.shoot.specs.declared.tickets.Collected.TheVariants.{Done, Waiting}
use Rattle.shoot.specs.declared.tickets.TicketFault.TheVariants.{HomeNotNamed, NoTicket}

-- capacity 2: full by what is outstanding, room by a release, closed before full, and what waits
-- stays
abbrev pub mailbox_row : Request → Request → Request → Request → Type 0
mailbox_row a b c d = IsLawful 2
    (Take None ∷ Take (Some c) ∷ Take (Some b) ∷ Post d (Err (Closed, d)) ∷ Close ∷ Post c (Ok tt)
    ∷ Release ∷ Post c (Err (Full, c)) ∷ Take (Some a)
    ∷ Post c (Err (Full, c)) ∷ Post b (Ok tt) ∷ Post a (Ok tt) ∷ [])

-- hart 0 names itself and hart 1: its own acknowledgement is collected at once, that of hart 1 once
-- hart 1 has acknowledged
unfoldable pub own_acked : TicketTable
own_acked = after_acked (after_open (no_tickets 0) All 0x3) 0 0

unfoldable pub one_collected : TicketTable
one_collected = after_collect (after_collect own_acked 0 0) 0 1

abbrev pub ticket_row : Type 0
ticket_row = (open_answer (no_tickets 0) 0x2 ≡ Err HomeNotNamed)
    × (open_answer (no_tickets 0) 0x3 ≡ Ok 0)
    × (progress_at (after_collect own_acked 0 0) 0 ≡ Waiting 0x2)
    × (progress_at one_collected 0 ≡ Waiting 0x2)
    × (finish_answer one_collected 0 ≡ Err (record {}))
    × (progress_at (after_collect (after_acked one_collected 0 1) 0 1) 0 ≡ Done)
    × (finish_answer (after_collect (after_acked one_collected 0 1) 0 1) 0 ≡ Ok tt)

-- the same without the collection from hart 0
abbrev pub own_row : Type 0
own_row = (progress_at (after_collect own_acked 0 1) 0 ≡ Waiting 0x2)
    × (progress_at (after_collect (after_acked own_acked 0 1) 0 1) 0 ≡ Done)
    × (finish_answer (after_collect (after_acked own_acked 0 1) 0 1) 0 ≡ Ok tt)

-- no acknowledgement can be collected of what still waits; once one request is taken, one can
abbrev pub nothing_to_collect : Request → Request → Type 0
nothing_to_collect a b =
    can_release (mailbox_after 2 (Post b (Ok tt) ∷ Post a (Ok tt) ∷ [])) ≡ false

abbrev pub one_to_collect : Request → Request → Type 0
one_to_collect a b =
    can_release (mailbox_after 2 (Take (Some a) ∷ Post b (Ok tt) ∷ Post a (Ok tt) ∷ [])) ≡ true

abbrev pub collected_once : Request → Request → Type 0
collected_once a b =
    can_release (mailbox_after 2 (Release ∷ Take (Some a) ∷ Post b (Ok tt) ∷ Post a (Ok tt) ∷ []))
    ≡ false

abbrev pub one_left_to_collect : Request → Request → Type 0
one_left_to_collect a b =
    can_release (mailbox_after 2 (Release ∷ Take (Some b) ∷ Take (Some a) ∷ Post b (Ok tt)
    ∷ Post a (Ok tt) ∷ [])) ≡ true

-- hart 2 names itself and hart 7: a post is no acknowledgement and an acknowledgement no
-- collection, and two tickets are told apart
unfoldable pub first_opened : TicketTable
first_opened = after_open (no_tickets 2) (SpaceOf 1) 0x84

unfoldable pub posted_to_7 : TicketTable
posted_to_7 = after_collect (after_posted (after_open first_opened All 0x84) 0 7) 0 7

unfoldable pub acked_by_2 : TicketTable
acked_by_2 = after_collect (after_acked posted_to_7 0 2) 0 7

unfoldable pub acked_by_7 : TicketTable
acked_by_7 = after_collect (after_acked acked_by_2 0 7) 1 7

abbrev pub two_tickets_row : Type 0
two_tickets_row = (open_answer (no_tickets 2) 0x3 ≡ Err HomeNotNamed)
    × (open_answer (no_tickets 2) 0x84 ≡ Ok 0)
    × (open_answer first_opened 0x84 ≡ Ok 1)
    × (progress_at posted_to_7 0 ≡ Waiting 0x84)
    × (progress_at acked_by_2 0 ≡ Waiting 0x80)
    × (finish_answer (after_acked acked_by_2 0 7) 0 ≡ Err (record {}))
    × (progress_at acked_by_7 1 ≡ Waiting 0x84)
    × (progress_at (after_collect acked_by_7 0 7) 0 ≡ Done)
    × (finish_answer (after_collect acked_by_7 0 7) 0 ≡ Ok tt)

-- two open tickets of hart 2 are told apart, and so are two harts: each of these tests gives both
-- answers
unfoldable pub two_open : TicketTable
two_open = after_acked (after_posted (after_open first_opened All 0x4) 0 7) 0 2

unfoldable pub marks : (TicketTable → ℕ → ℕ → Bool) → List Bool
marks tells = tells two_open 0 2 ∷ tells two_open 0 7 ∷ tells two_open 1 2 ∷ tells two_open 1 7 ∷ []

abbrev pub open_numbers : Type 0
open_numbers = map (is_open two_open) (0 ∷ 1 ∷ 2 ∷ 64 ∷ []) ≡ true ∷ true ∷ false ∷ false ∷ []

abbrev pub who_is_named : Type 0
who_is_named = marks names ≡ true ∷ true ∷ true ∷ false ∷ []

abbrev pub who_was_posted_to : Type 0
who_was_posted_to = marks ticket_posted ≡ false ∷ true ∷ false ∷ false ∷ []

abbrev pub who_acknowledged : Type 0
who_acknowledged = marks ticket_acked ≡ true ∷ false ∷ false ∷ false ∷ []

abbrev pub who_is_collected : Type 0
who_is_collected = marks ticket_collected ≡ true ∷ false ∷ false ∷ false ∷ []

abbrev pub one_is_done : Type 0
one_is_done = map (is_done_at (after_acked two_open 1 2)) (0 ∷ 1 ∷ []) ≡ false ∷ true ∷ []

-- what a ticket asks is found by its number, and what was said of a number is not said of a later
-- ticket
unfoldable pub alone : TicketTable
alone = after_open (no_tickets 0) (SpaceOf 1) 0x1

unfoldable pub ticket_0_used_again : TicketTable
ticket_0_used_again = after_open (after_finish (after_acked alone 0 0) 0) All 0x1

abbrev pub what_is_asked : Type 0
what_is_asked = what_at alone 0 ≡ Some (SpaceOf 1)

abbrev pub not_acked_again : Type 0
not_acked_again = ticket_acked ticket_0_used_again 0 0 ≡ false

abbrev pub not_collected_again : Type 0
not_collected_again = ticket_collected ticket_0_used_again 0 0 ≡ false

abbrev pub only_who_was_posted_to : Type 0
only_who_was_posted_to =
    ticket_posted (after_posted (after_open (no_tickets 0) All 0xF) 0 3) 0 2 ≡ false

-- the tickets of hart 0 once this many were opened, of which each names it alone
unfoldable pub opened : ℕ → TicketTable
opened zero = no_tickets 0
opened (suc n) = after_open (opened n) All 0x1

abbrev pub last_ticket : Type 0
last_ticket = open_answer (opened 63) 0x1 ≡ Ok 63

abbrev pub no_ticket : Type 0
no_ticket = open_answer (opened 64) 0x1 ≡ Err NoTicket

abbrev pub home_before_number : Type 0
home_before_number = open_answer (opened 64) 0x2 ≡ Err HomeNotNamed

-- the ticket is acknowledged by the hart itself and freed
abbrev pub freed : ℕ → TicketTable → TicketTable
freed number table = after_finish (after_acked table number 0) number

abbrev pub lowest_is_opened : Type 0
lowest_is_opened = open_answer (freed 7 (freed 40 (opened 64))) 0x1 ≡ Ok 7

-- bit h stands for hart h
abbrev pub harts_of_a_byte : Type 0
harts_of_a_byte = harts_in 0x81 ≡ true ∷ false ∷ false ∷ false ∷ false ∷ false ∷ false ∷ true ∷ []

abbrev pub byte_of_harts : Type 0
byte_of_harts = byte_of (false ∷ false ∷ true ∷ false ∷ false ∷ false ∷ false ∷ true ∷ []) ≡ 0x84

-- the page 2M:0x400000 of ASID 1: bit 63, size 1 at bit 52, the ASID at bit 36, and page 0x400
abbrev pub large_page_of_asid_1 : Type 0
large_page_of_asid_1 =
    acknowledgement (PageOf (record { base = 0x400000; size = Mib2 }) (Some 1)) ≡ 0x8010001000000400

-- the global page 4K:0xffffffffc0000000: kind 1 at bit 54, and bits 47 to 12 of the address
abbrev pub global_page_in_the_high_half : Type 0
global_page_in_the_high_half =
    acknowledgement (PageOf (record { base = 0xFFFFFFFFC0000000; size = Kib4 }) None)
    ≡ 0x8040000FFFFC0000

-- kind 3
abbrev pub all : Type 0
all = acknowledgement All ≡ 0x80C0000000000000

-- the page 512G:0x8000000000 of ASID 1: size 3
abbrev pub page_of_512_gib : Type 0
page_of_512_gib =
    acknowledgement (PageOf (record { base = 0x8000000000; size = Gib512 }) (Some 1))
    ≡ 0x8030001008000000
