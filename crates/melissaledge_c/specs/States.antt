-- What a machine tells C of its state: harts, entries, spaces, tickets, mailboxes and words.
use Rattle.std.specs.Prelude.{ℕ, ℤ, Bool, pos, ◌≡◌, nat_lt, ◌&&◌, length, slice_get, if◌then◌else◌, Option, Some, None, Result, Ok, Err}
use Rattle.pte.specs.declared.permission.Access.{Access}
use Rattle.pte.specs.declared.permission.Access.TheVariants.{Fetch, Load, Store}
use Rattle.walk.specs.Stage.{Stage}
use Rattle.tlb.specs.declared.store.Entry.{Entry}
use Rattle.shoot.specs.HartSet.{byte_of}
use Rattle.shoot.specs.Mailbox.{MailboxState}
use Rattle.shoot.specs.Request.{Request}
use Rattle.shoot.specs.Tickets.{ticket_at}
use Rattle.shoot.specs.declared.tickets.Ticket.{Ticket}
use Rattle.spaces.specs.Layout.{home_of, root_ppn}
use Rattle.spaces.specs.declared.places.Place.TheVariants.{Space}
use Rattle.stepcore.specs.Answers.{asid_of_hart}
use Rattle.stepcore.specs.State.{HartState, State, hart_at, mailbox_at, space_at, tickets_at, words_in}
use Rattle.stepcore.specs.declared.serving.Serving.{Serving}
use Rattle.stepcore.specs.declared.space_state.Phase.{Phase}
use Rattle.stepcore.specs.declared.space_state.Phase.TheVariants as phase
use Rattle.melissaledge_c.specs.declared.codes.Fault.{Fault}
use Rattle.melissaledge_c.specs.declared.codes.Fault.TheVariants as fault
use Rattle.melissaledge_c.specs.declared.requests.EntryGiven.{EntryGiven}
use Rattle.melissaledge_c.specs.declared.states.HartGiven.{HartGiven}
use Rattle.melissaledge_c.specs.declared.states.MailboxGiven.{MailboxGiven}
use Rattle.melissaledge_c.specs.declared.states.RequestGiven.{RequestGiven}
use Rattle.melissaledge_c.specs.declared.states.SpaceGiven.{SpaceGiven}
use Rattle.melissaledge_c.specs.declared.states.TicketGiven.{TicketGiven}
use Rattle.melissaledge_c.specs.Codes.{code_of, number_of}
use Rattle.melissaledge_c.specs.MachineHeld.{Held}
use Rattle.melissaledge_c.specs.Replies.{what_given, zero_what}
use Rattle.melissaledge_c.specs.Requests.{entry_given}

-- the value is given, or the call is refused and what was there stays
abbrev pub Gives : {A : Type 0} → Result A Fault → ℤ → A → A → Type 0
Gives (Err why) result before after = (result ≡ code_of why) × (after ≡ before)
Gives (Ok value) result before after = (result ≡ pos 0) × (after ≡ value)

-- the same of what a handle holds
abbrev pub Reads : {A : Type 0} → (State → Result A Fault) → Held → ℤ → A → A → Type 0
Reads given None result before after = (result ≡ code_of fault.NotOpen) × (after ≡ before)
Reads given (Some machine) result before after = Gives (given machine) result before after

abbrev pub access_code : Access → ℕ
access_code Fetch = 0
access_code Load = 1
access_code Store = 2

-- a hart with neither walk nor service
abbrev pub resting : HartState → ℕ → HartGiven
resting hart asid = record {
  va = 0;
  table_ppn = 0;
  what = zero_what;
  ticket = 0;
  asid = asid;
  space = hart.space;
  entries = length hart.entries;
  is_walking = 0;
  access = 0;
  level = 0;
  is_serving = 0;
  sender = 0;
  has_fenced = 0;
}

abbrev pub with_walk : Option Stage → HartGiven → HartGiven
with_walk None given = given
with_walk (Some walk) given = record given {
  va = walk.va;
  table_ppn = walk.table;
  is_walking = 1;
  access = access_code walk.access;
  level = walk.level;
}

abbrev pub with_service : Option Serving → HartGiven → HartGiven
with_service None given = given
with_service (Some serving) given = record given {
  what = what_given serving.request.what;
  ticket = serving.request.ticket;
  is_serving = 1;
  sender = serving.from;
  has_fenced = number_of serving.fenced;
}

-- what is given of a hart, if there is that hart
abbrev pub of_hart : {A : Type 0} → State → ℕ → Result A Fault → Result A Fault
of_hart m hart given = if nat_lt hart (length m.harts) then given else Err fault.Hart

abbrev pub hart_given : ℕ → State → Result HartGiven Fault
hart_given hart m = of_hart m hart (Ok (with_service (hart_at m hart).serving
    (with_walk (hart_at m hart).walk
    (resting (hart_at m hart) (asid_of_hart m (hart_at m hart))))))

-- the entry of a place
abbrev pub entry_in : Option Entry → Result EntryGiven Fault
entry_in None = Err fault.Place
entry_in (Some entry) = Ok (entry_given entry)

abbrev pub entry_at : ℕ → ℕ → State → Result EntryGiven Fault
entry_at hart age m = of_hart m hart (entry_in (slice_get (hart_at m hart).entries age))

-- 0 for a live space, 1 for one that is retiring, 2 for a free one
abbrev pub phase_code : Phase → ℕ
phase_code phase.Live = 0
phase_code (phase.Retiring ticket) = 1
phase_code phase.Free = 2

-- a space has a state and a root table
abbrev pub has_space : State → ℕ → Bool
has_space m space =
    nat_lt space (length m.spaces) && nat_lt space (length m.memory.layout.homes)

abbrev pub space_given : ℕ → State → Result SpaceGiven Fault
space_given space m =
    if has_space m space then Ok (record {
      root_ppn = root_ppn m.memory.layout space;
      asid = (space_at m space).asid;
      home = home_of m.memory.layout (Space space);
      phase = phase_code (space_at m space).phase;
    })
    else Err fault.Space

abbrev pub ticket_in : Option Ticket → Result TicketGiven Fault
ticket_in None = Err fault.Ticket
ticket_in (Some ticket) = Ok (record {
  what = what_given ticket.what;
  named = byte_of ticket.named;
  posted = byte_of ticket.posted;
  acknowledged = byte_of ticket.acked;
  collected = byte_of ticket.collected;
})

abbrev pub ticket_given : ℕ → ℕ → State → Result TicketGiven Fault
ticket_given hart ticket m = of_hart m hart (ticket_in (ticket_at (tickets_at m hart) ticket))

-- what is given of the mailbox between two harts, if there are both
abbrev pub of_mailbox : {A : Type 0} → State → ℕ → ℕ → Result A Fault → Result A Fault
of_mailbox m sender receiver given =
    if nat_lt sender (length m.harts) && nat_lt receiver (length m.harts) then given
    else Err fault.Hart

abbrev pub mailbox_in : ℕ → MailboxState → MailboxGiven
mailbox_in capacity mailbox = record {
  capacity = capacity;
  outstanding = mailbox.outstanding;
  is_closed = number_of mailbox.closed;
}

abbrev pub mailbox_given : ℕ → ℕ → State → Result MailboxGiven Fault
mailbox_given sender receiver m =
    of_mailbox m sender receiver (Ok (mailbox_in m.capacity (mailbox_at m sender receiver)))

abbrev pub request_in : Option Request → Result RequestGiven Fault
request_in None = Err fault.Place
request_in (Some request) =
    Ok (record { what = what_given request.what; ticket = request.ticket })

abbrev pub request_given : ℕ → ℕ → ℕ → State → Result RequestGiven Fault
request_given sender receiver place m = of_mailbox m sender receiver
    (request_in (slice_get (mailbox_at m sender receiver).waiting place))

abbrev pub word_in : Option ℕ → Result ℕ Fault
word_in None = Err fault.Place
word_in (Some word) = Ok word

abbrev pub word_given : ℕ → ℕ → State → Result ℕ Fault
word_given ppn index m = word_in (words_in m ppn index)
