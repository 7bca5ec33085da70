-- What contracts see of a machine: its table memory, its spaces by their numbers, and its harts,
-- tickets and mailboxes by the numbers of the harts.
use Rattle.std.specs.Prelude.{ℕ, ◌≡◌, ◌+◌, ◌*◌, ◌<◌, ◌≤◌, List, [], length, Option, None, slice_get, unwrap_or, All, nat_lt, if◌then◌else◌}
use Rattle.pte.specs.declared.scheme.Scheme.{Scheme}
use Rattle.pte.specs.declared.scheme.Scheme.TheVariants.{Sv39}
use Rattle.walk.specs.Leads.{Tables}
use Rattle.walk.specs.Stage.{Stage}
use Rattle.spaces.specs.Held.{Held, memory_words, holders_of}
use Rattle.spaces.specs.Holders.{Holders}
use Rattle.tlb.specs.declared.store.Entry.{Entry}
use Rattle.pte.specs.declared.TheConstants.{MAX_HARTS}
use Rattle.shoot.specs.Mailbox.{MailboxState, empty_mailbox}
use Rattle.shoot.specs.Tickets.{TicketTable, no_tickets}
use Rattle.history.specs.Setup.{Setup}
use Rattle.stepcore.specs.declared.serving.Serving.{Serving}
use Rattle.stepcore.specs.declared.space_state.SpaceState.{SpaceState}
use Rattle.stepcore.specs.declared.space_state.Phase.TheVariants as phase

-- a hart: its space, the walk in flight, the request that it serves, and the scheme and the entries
-- of its TLB
pub record HartState : Type 0 where
  pub scheme : Scheme
  pub space : ℕ
  pub walk : Option Stage
  pub serving : Option Serving
  pub entries : List Entry

-- what it keeps of the spaces stands by their numbers; the mailboxes are all of one capacity
pub record State : Type 0 where
  pub memory : Held
  pub spaces : List SpaceState
  pub harts : List HartState
  pub tickets : List TicketTable
  pub mailboxes : List MailboxState
  pub capacity : ℕ

-- the words of the tables, and for which place each spare frame is in use
abbrev pub words_in : State → Tables
words_in m = memory_words m.memory

abbrev pub holders_in : State → Holders
holders_in m = holders_of m.memory

-- the space of a number; one that does not exist is free
abbrev pub no_space : SpaceState
no_space = record { asid = 0; phase = phase.Free }

-- one that was just opened or created
abbrev pub live_space : ℕ → SpaceState
live_space asid = record { asid = asid; phase = phase.Live }

abbrev pub space_at : State → ℕ → SpaceState
space_at m space = unwrap_or (slice_get m.spaces space) no_space

-- a hart that was just opened
abbrev pub new_hart : Scheme → HartState
new_hart scheme = record { scheme = scheme; space = 0; walk = None; serving = None; entries = [] }

-- one that stands for a hart that does not exist
abbrev pub idle_hart : HartState
idle_hart = new_hart Sv39

-- the hart of a number, its tickets, and the mailbox from one hart to another
abbrev pub hart_at : State → ℕ → HartState
hart_at m hart = unwrap_or (slice_get m.harts hart) idle_hart

abbrev pub tickets_at : State → ℕ → TicketTable
tickets_at m hart = unwrap_or (slice_get m.tickets hart) (no_tickets hart)

-- where the mailbox from one hart to another stands: those between the first n harts take the first
-- n * n places
abbrev pub mailbox_index : ℕ → ℕ → ℕ
mailbox_index sender receiver =
    if nat_lt sender receiver then receiver * receiver + sender
    else sender * sender + sender + receiver

abbrev pub mailbox_at : State → ℕ → ℕ → MailboxState
mailbox_at m sender receiver =
    unwrap_or (slice_get m.mailboxes (mailbox_index sender receiver)) (empty_mailbox 0)

-- what the machine was opened with, as numbers; the first ASIDs are forgotten
abbrev pub setup_in : State → Setup
setup_in m = record {
  harts = length m.harts;
  capacity = m.capacity;
  asids = [];
  layout = m.memory.layout;
}

-- what every machine keeps: as many tables of tickets as harts, a mailbox for each pair of harts,
-- as many spaces as roots, and each hart in a space that exists
pub record IsMachine (m : State) : Type 0 where
  pub few : length m.harts ≤ MAX_HARTS
  pub tickets : length m.tickets ≡ length m.harts
  pub mailboxes : length m.mailboxes ≡ length m.harts * length m.harts
  pub homes : length m.spaces ≡ length m.memory.layout.homes
  pub spaces : All (λ hart. hart.space < length m.spaces) m.harts
