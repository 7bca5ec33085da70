-- When a machine stands at a history: the history is lawful under what the machine was opened with,
-- and its table words, harts, tickets and mailboxes are those that the history leaves.
use Rattle.pte.specs.declared.scheme.Scheme.{Scheme}
use Rattle.std.specs.Prelude.{ℕ, ◌≡◌, ◌+◌, ◌<◌, Bool, [], length, map, Option, Some, None, if◌then◌else◌}
use Rattle.std.specs.List.{range_with_len}
use Rattle.pte.specs.Address.{top_level}
use Rattle.walk.specs.Leads.{Tables}
use Rattle.walk.specs.Stage.{Stage, OnPath}
use Rattle.spaces.specs.Layout.{root_ppn}
use Rattle.shoot.specs.HartSet.{harts_where}
use Rattle.shoot.specs.declared.TheConstants.{MAX_TICKETS}
use Rattle.shoot.specs.declared.tickets.Ticket.{Ticket}
use Rattle.shoot.specs.Mailbox.{MailboxState}
use Rattle.shoot.specs.Tickets.{TicketTable}
use Rattle.history.specs.Setup.{Setup}
use Rattle.history.specs.Turns.{History}
use Rattle.history.specs.Orders.{Order, order_at, open_order, is_order}
use Rattle.history.specs.Mailboxes.{Sent, waiting, is_closed}
use Rattle.history.specs.Service.{served, has_fenced}
use Rattle.history.specs.Acknowledgements.{is_posted, is_acked, is_collected, outstanding}
use Rattle.history.specs.Tables.{words_of}
use Rattle.history.specs.Spaces.{Status, Live, Retires, Free, status_of, asid_of, holder_of}
use Rattle.stepcore.specs.declared.space_state.SpaceState.{SpaceState}
use Rattle.stepcore.specs.declared.space_state.Phase.{Phase}
use Rattle.stepcore.specs.declared.space_state.Phase.TheVariants as phase
use Rattle.history.specs.Harts.{Walking, space_of, walk_of, entries_of}
use Rattle.history.specs.Due.{Lawful}
use Rattle.laws.specs.Kept.{HavePages, IsSetup}
use Rattle.stepcore.specs.declared.serving.Serving.{Serving}
use Rattle.stepcore.specs.State.{State, HartState, setup_in, words_in, holders_in, hart_at, space_at, tickets_at, mailbox_at}

-- the walk of a machine has made these loads: it holds the table that as many pointers lead to
pub record IsStageOf (scheme : Scheme) (words : Tables) (root : ℕ) (stage : Stage)
    (walk : Walking) : Type 0 where
  pub va : stage.va ≡ walk.va
  pub access : stage.access ≡ walk.access
  pub ctx : stage.ctx ≡ walk.ctx
  pub level : stage.level + walk.loads ≡ top_level scheme
  pub on : OnPath scheme words root stage

-- neither walks, or both do, and the walk of the machine has made the loads of the other
abbrev pub AreSameWalk : Scheme → Tables → ℕ → Option Stage → Option Walking → Type 0
AreSameWalk scheme words root None None = Unit {0}
AreSameWalk scheme words root None (Some walk) = ⊥
AreSameWalk scheme words root (Some stage) None = ⊥
AreSameWalk scheme words root (Some stage) (Some walk) = IsStageOf scheme words root stage walk

-- what a hart serves
abbrev pub service_with : Bool → Option Sent → Option Serving
service_with fenced None = None
service_with fenced (Some sent) =
    Some (record { from = sent.sender; request = sent.request; fenced = fenced })

abbrev pub service_of : Setup → History → ℕ → Option Serving
service_of setup history hart = service_with (has_fenced history hart) (served setup history hart)

-- the hart is what the history leaves of hart h
pub record HartStands (setup : Setup) (history : History) (number : ℕ)
    (hart : HartState) : Type 0 where
  pub space : hart.space ≡ space_of history number
  pub walk : AreSameWalk setup.layout.scheme (words_of setup history)
      (root_ppn setup.layout (space_of history number)) hart.walk (walk_of history number)
  pub serving : hart.serving ≡ service_of setup history number
  pub scheme : hart.scheme ≡ setup.layout.scheme
  pub entries : hart.entries ≡ entries_of setup history number

-- the ticket of an order, the open ticket of a number, and all tickets of a hart
abbrev pub ticket_with : Setup → History → ℕ → Option Order → Option Ticket
ticket_with setup history number None = None
ticket_with setup history number (Some order) = Some (record {
  what = order.what;
  named = order.named;
  posted = harts_where (is_posted history number);
  acked = harts_where (is_acked setup history number);
  collected = harts_where (is_collected setup history number);
})

abbrev pub ticket_held : Setup → History → Option ℕ → Option Ticket
ticket_held setup history None = None
ticket_held setup history (Some order) =
    ticket_with setup history order (order_at setup history order)

abbrev pub ticket_of : Setup → History → ℕ → ℕ → Option Ticket
ticket_of setup history s t = ticket_held setup history (open_order history s t)

abbrev pub tickets_of : Setup → History → ℕ → TicketTable
tickets_of setup history s =
    record { hart = s; tickets = map (ticket_of setup history s) (range_with_len 0 MAX_TICKETS) }

-- the mailbox from one hart to another
abbrev pub mailbox_of : Setup → History → ℕ → ℕ → MailboxState
mailbox_of setup history sender receiver =
    record {
      waiting = waiting setup history sender receiver;
      outstanding = outstanding setup
          history sender receiver;
      closed = is_closed history sender receiver;
      capacity = setup.capacity;
    }

-- the phase of a space: a retiring one has the ticket of its order while that is open
abbrev pub ticket_now : History → ℕ → Option Order → Option ℕ
ticket_now history number None = None
ticket_now history number (Some order) =
    if is_order (open_order history order.sender order.ticket) number then Some order.ticket
    else None

abbrev pub phase_with : Setup → History → Status → Phase
phase_with setup history Live = phase.Live
phase_with setup history (Retires order) =
    phase.Retiring (ticket_now history order (order_at setup history order))
phase_with setup history Free = phase.Free

-- the space is what the history leaves of space s
pub record SpaceStands (setup : Setup) (history : History) (s : ℕ)
    (space : SpaceState) : Type 0 where
  pub asid : space.asid ≡ asid_of setup history s
  pub phase_is : space.phase ≡ phase_with setup history (status_of history s)

-- a setup but for its first ASIDs
abbrev pub bare : Setup → Setup
bare setup =
    record { harts = setup.harts; capacity = setup.capacity; asids = []; layout = setup.layout }

-- the machine stands at the history: that is lawful and speaks of pages, the setup is within the
-- limits and the machine's, and each part of the machine is what the history leaves
pub record Stands (opened : Setup) (m : State) (history : History) : Type 0 where
  pub lawful : Lawful opened history
  pub pages : HavePages history
  pub within : IsSetup opened
  pub setup : setup_in m ≡ bare opened
  pub count : length m.spaces ≡ length opened.asids
  pub words : (ppn i : ℕ) → words_in m ppn i ≡ words_of opened history ppn i
  pub holders : (ppn : ℕ) → holders_in m ppn ≡ holder_of history ppn
  pub spaces : (s : ℕ) → s < length opened.asids → SpaceStands opened history s (space_at m s)
  pub harts : (hart : ℕ) → hart < opened.harts → HartStands opened history hart (hart_at m hart)
  pub tickets : (hart : ℕ) → hart < opened.harts
      → tickets_at m hart ≡ tickets_of opened history hart
  pub mailboxes : (sender receiver : ℕ) → sender < opened.harts → receiver < opened.harts
      → mailbox_at m sender receiver ≡ mailbox_of opened history sender receiver
