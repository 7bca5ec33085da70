-- The whole text of a machine: a table for each of its parts, and then the page tables.
use Rattle.std.specs.Prelude.{ℕ, ◌≡◌, ◌+◌, List, [], ◌++◌, Option, Some, None, codes, length, nat_lt, slice_get, ◌||◌, if◌then◌else◌}
use Rattle.pte.specs.declared.address.What.{What}
use Rattle.tlb.specs.declared.store.Entry.{Entry}
use Rattle.shoot.specs.Mailbox.{MailboxState}
use Rattle.shoot.specs.Request.{Request}
use Rattle.shoot.specs.Tickets.{TicketTable, ticket_acked, ticket_collected, ticket_posted, names, what_at}
use Rattle.shoot.specs.declared.TheConstants.{MAX_CAPACITY, MAX_TICKETS}
use Rattle.history.specs.Setup.{setup_of}
use Rattle.history.specs.declared.event.Event.{Event}
use Rattle.spaces.specs.Layout.{home_of, root_ppn}
use Rattle.spaces.specs.declared.configuration.Config.{Config}
use Rattle.spaces.specs.declared.places.Place.TheVariants as place
use Rattle.stepcore.specs.Answers.{asid_of_hart}
use Rattle.stepcore.specs.Stands.{Stands}
use Rattle.stepcore.specs.State.{State, hart_at, mailbox_at, space_at, tickets_at}
use Rattle.stepcore.specs.declared.serving.Serving.{Serving}
use Rattle.lines.specs.Rows.{entry_line, first_line, hart_line, mailbox_line, order_line, rows_below, service_line, space_line, table_text, waiting_line}
use Rattle.lines.specs.Runs.{due_history}

-- ---- the columns of the tables

abbrev pub space_head : List ℕ
space_head = codes "space  asid   home  root           state\n"

abbrev pub hart_head : List ℕ
hart_head = codes "hart  space  asid   walk   address             level  table\n"

abbrev pub service_head : List ℕ
service_head = codes "hart  serves  ticket  fenced  drops\n"

abbrev pub entry_head : List ℕ
entry_head = codes "hart  age  page                     asid    ppn            flags\n"

abbrev pub order_head : List ℕ
order_head = codes "hart  ticket  named     posted    acknowledged  collected  drops\n"

abbrev pub mailbox_head : List ℕ
mailbox_head = codes "from  to  mailbox  outstanding  ticket  drops\n"

-- ---- their rows

abbrev pub space_row : State → ℕ → List ℕ
space_row m space =
    space_line space (space_at m space) (home_of m.memory.layout (place.Space space))
    (root_ppn m.memory.layout space)

abbrev pub hart_row : State → ℕ → List ℕ
hart_row m hart = hart_line hart (hart_at m hart) (asid_of_hart m (hart_at m hart))

abbrev pub service_row : ℕ → Option Serving → List ℕ
service_row hart None = []
service_row hart (Some serving) = service_line hart serving

abbrev pub service_rows : State → ℕ → List ℕ
service_rows m hart = service_row hart (hart_at m hart).serving

abbrev pub entry_row : ℕ → ℕ → Option Entry → List ℕ
entry_row hart age None = []
entry_row hart age (Some entry) = entry_line hart age entry

-- the entries of a TLB, the oldest first
abbrev pub entry_rows : ℕ → List Entry → List ℕ
entry_rows hart entries =
    rows_below (λ age. entry_row hart age (slice_get entries age)) (length entries)

-- how many tickets a hart has, and for how many requests a mailbox may have room
unfoldable pub ticket_count : ℕ
ticket_count = MAX_TICKETS

unfoldable pub waiting_count : ℕ
waiting_count = MAX_CAPACITY

abbrev pub order_row : ℕ → ℕ → TicketTable → ℕ → Option What → List ℕ
order_row harts hart tickets ticket None = []
order_row harts hart tickets ticket (Some what) =
    order_line harts hart ticket (names tickets ticket) (ticket_posted tickets ticket)
    (ticket_acked tickets ticket) (ticket_collected tickets ticket) what

-- the open orders of a hart, by their tickets
abbrev pub order_rows : ℕ → ℕ → TicketTable → List ℕ
order_rows harts hart tickets =
    rows_below (λ ticket. order_row harts hart tickets ticket (what_at tickets ticket)) ticket_count

abbrev pub waiting_row : Option Request → List ℕ
waiting_row None = []
waiting_row (Some request) = waiting_line request

-- a mailbox with the oldest request that waits, and those that wait behind it
abbrev pub mailbox_rows : ℕ → ℕ → MailboxState → ℕ → List ℕ
mailbox_rows sender receiver mailbox capacity =
    mailbox_line sender receiver mailbox capacity
    ++ rows_below (λ place. waiting_row (slice_get mailbox.waiting (place + 1))) waiting_count

-- one that is closed or has requests that are outstanding
abbrev pub mailbox_rows_if : ℕ → ℕ → MailboxState → ℕ → List ℕ
mailbox_rows_if sender receiver mailbox capacity =
    if mailbox.closed || nat_lt 0 mailbox.outstanding
    then mailbox_rows sender receiver mailbox capacity else []

abbrev pub mailbox_rows_from : State → ℕ → ℕ → ℕ → List ℕ
mailbox_rows_from m capacity sender receivers =
    rows_below (λ receiver. mailbox_rows_if sender receiver (mailbox_at m sender receiver) capacity)
    receivers

-- ---- the tables

abbrev pub spaces_text : State → List ℕ
spaces_text m = table_text space_head (rows_below (space_row m) (length m.spaces))

abbrev pub harts_text : State → List ℕ
harts_text m = table_text hart_head (rows_below (hart_row m) (length m.harts))

abbrev pub services_text : State → List ℕ
services_text m = table_text service_head (rows_below (service_rows m) (length m.harts))

abbrev pub tlbs_text : State → List ℕ
tlbs_text m =
    table_text entry_head (rows_below (λ hart. entry_rows hart (hart_at m hart).entries)
    (length m.harts))

abbrev pub orders_text : State → List ℕ
orders_text m =
    table_text order_head (rows_below (λ hart. order_rows (length m.harts) hart (tickets_at m hart))
    (length m.harts))

abbrev pub mailboxes_text : State → ℕ → List ℕ
mailboxes_text m capacity =
    table_text mailbox_head (rows_below
    (λ sender. mailbox_rows_from m capacity sender (length m.harts)) (length m.harts))

-- ---- the whole text

-- the text of a machine after this many steps: all tables, and then some lines of page tables
abbrev pub IsSheet : ℕ → Config → State → List ℕ → Type 0
IsSheet steps config m text =
    (tree : List ℕ) × (text ≡ first_line steps config ++ spaces_text m ++ harts_text m
    ++ services_text m ++ tlbs_text m ++ orders_text m
    ++ mailboxes_text m config.capacity ++ tree)

-- it is the text of a machine that stands after the events, each of which had its due reply
abbrev pub Shows : Config → List Event → List ℕ → Type 0
Shows config events text =
    (m : State) × Stands (setup_of config) m (due_history (setup_of config) events)
    × IsSheet (length events) config m text
