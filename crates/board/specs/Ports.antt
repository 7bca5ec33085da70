-- What contracts see of a hart's port, and what makes ports the ports of one board.
use Rattle.std.specs.Prelude.{ℕ, ◌<◌, ◌≡◌, ◌==◌, List, [], map, Option, Some, None, slice_get, unwrap_or, All, if◌then◌else◌}
use Rattle.std.specs.Option.{option_map}
use Rattle.std.specs.List.{range_with_len}
use Rattle.atomic_table.specs.Seated.{TableId}
use Rattle.shoot.specs.Tickets.{TicketTable, no_tickets}
use Rattle.tlb.specs.Entries.{TlbState}
use Rattle.history.specs.Setup.{Setup, setup_of}
use Rattle.board.specs.Ends.{Ring, OutboxState, InboxState, new_outbox, new_inbox}
use Rattle.spaces.specs.declared.configuration.Config.{Config}
use Rattle.spaces.specs.Layout.{layout_of}
use Rattle.views.specs.declared.view.View.{View}
use Rattle.views.specs.Rule.{starting}

-- what the board was opened with; which table the shared words are; which hart it is; its space;
-- what it knows of the shared words; its tickets and its TLB; and by the numbers of the harts the
-- ends by which it posts to each other hart and takes from it, none for itself
pub record PortState : Type 0 where
  pub setup : Setup
  pub table : TableId
  pub hart : ℕ
  pub space : ℕ
  pub view : View
  pub tickets : TicketTable
  pub tlb : TlbState
  pub outboxes : List (Option OutboxState)
  pub inboxes : List (Option InboxState)

-- an element that may be none, and none past the end
abbrev pub if_there : {X : Type 0} → Option (Option X) → Option X
if_there None = None
if_there (Some element) = element

abbrev pub element : {X : Type 0} → List (Option X) → ℕ → Option X
element row number = if_there (slice_get row number)

-- the end to another hart, and the end from it
abbrev pub outbox_to : PortState → ℕ → Option OutboxState
outbox_to port hart = element port.outboxes hart

abbrev pub inbox_from : PortState → ℕ → Option InboxState
inbox_from port hart = element port.inboxes hart

-- which end it is: its ring, and its capacity
pub record End : Type 0 where
  pub ring : Ring
  pub capacity : ℕ

abbrev pub end_of_outbox : OutboxState → End
end_of_outbox outbox = record { ring = outbox.ring; capacity = outbox.capacity }

abbrev pub end_of_inbox : InboxState → End
end_of_inbox inbox = record { ring = inbox.ring; capacity = inbox.capacity }

-- which port it is: what no call of it changes
pub record PortName : Type 0 where
  pub setup : Setup
  pub table : TableId
  pub hart : ℕ
  pub outs : List (Option End)
  pub ins : List (Option End)

abbrev pub name_of : PortState → PortName
name_of port =
    record {
      setup = port.setup;
      table = port.table;
      hart = port.hart;
      outs = map (option_map end_of_outbox) port.outboxes;
      ins = map (option_map end_of_inbox) port.inboxes;
    }

-- the capacities of a hart's ends: one to each other hart
abbrev pub capacities : Setup → ℕ → List (Option ℕ)
capacities setup hart =
    map (λ other. if other == hart then None else Some setup.capacity)
    (range_with_len 0 setup.harts)

abbrev pub capacities_of : List (Option End) → List (Option ℕ)
capacities_of ends = map (option_map (λ e. e.capacity)) ends

-- it is a hart's port: it has an end to and from each other hart
pub record IsPort (name : PortName) : Type 0 where
  pub hart_is_there : name.hart < name.setup.harts
  pub outs : capacities_of name.outs ≡ capacities name.setup name.hart
  pub ins : capacities_of name.ins ≡ capacities name.setup name.hart

-- a row of a table, and its element in a column
abbrev pub row : {X : Type 0} → List (List X) → ℕ → List X
row rows number = unwrap_or (slice_get rows number) []

abbrev pub cell : {X : Type 0} → List (List (Option X)) → ℕ → ℕ → Option X
cell rows number column = element (row rows number) column

-- They are the ports of one board, in the order of the harts, so each has the seat of another hart:
-- their shared words are one table, and the end from one hart to another and the end by which that
-- takes from it are of one ring.
pub record ArePorts (setup : Setup) (names : List PortName) : Type 0 where
  pub numbered : map (λ name. name.hart) names ≡ range_with_len 0 setup.harts
  pub of_setup : All (λ name. name.setup ≡ setup) names
  pub table : TableId
  pub of_table : All (λ name. name.table ≡ table) names
  pub each : All IsPort names
  pub linked : (sender receiver : ℕ)
      → cell (map (λ name. name.outs) names) sender receiver
      ≡ cell (map (λ name. name.ins) names) receiver sender

-- from which hart on a hart deals seats, 0 for none: hart 0 has dealt all others
abbrev pub next_seat : Config → ℕ → ℕ
next_seat config hart = if hart == 0 then config.harts else 0

-- a port that was just opened: it is in space 0, has done nothing with the shared words, no ticket
-- is open, its TLB is empty, and nothing was posted or taken
abbrev pub new_port : Config → PortName → PortState
new_port config name = record {
  setup = name.setup;
  table = name.table;
  hart = name.hart;
  space = 0;
  view = starting config name.hart (next_seat config name.hart);
  tickets = no_tickets name.hart;
  tlb = record { scheme = name.setup.layout.scheme; entries = [] };
  outboxes = map (option_map (λ e. new_outbox e.ring e.capacity)) name.outs;
  inboxes = map (option_map (λ e. new_inbox e.ring e.capacity)) name.ins;
}

-- a port that was just opened, over the words of a configuration with what it was opened with
pub record IsNew (port : PortState) : Type 0 where
  pub config : setup_of port.view.config ≡ port.setup
  pub is_new : port ≡ new_port port.view.config (name_of port)

-- ports that were just opened
abbrev pub AreNew : List PortState → Type 0
AreNew ports = All IsNew ports

-- such a port is one of the layout that it was opened with, and has done nothing
abbrev pub NewPortsHaveDoneNothing : Type 0
NewPortsHaveDoneNothing =
    (port : PortState) → IsNew port →
    (port.setup.layout ≡ layout_of port.view.config) × (port.space ≡ 0) × (port.tlb.entries ≡ [])
    × (port.view.entries ≡ []) × (port.view.orders ≡ []) × (port.view.cell_steps ≡ [])
