-- The port of a board with one hart, and the machine that it is like.
use Rattle.std.specs.Prelude.{◌≡◌, List, [], ◌∷◌, map, None}
use Rattle.shoot.specs.Mailbox.{empty_mailbox}
use Rattle.history.specs.Setup.{Setup}
use Rattle.history.specs.Turns.{History}
use Rattle.laws.specs.Kept.{IsSetup}
use Rattle.stepcore.specs.State.{State, live_space}
use Rattle.stepcore.specs.Stands.{Stands}
use Rattle.board.specs.Ports.{ArePorts, IsNew, PortState, name_of}
use Rattle.views.specs.Rule.{memory_of}
use Rattle.history.specs.declared.reply.Reply.{Reply}
use Rattle.one_hart.specs.declared.call.Call.{Call}
use Rattle.one_hart.specs.Answering.{heard}
use Rattle.one_hart.specs.Asked.{answers_due, asked, history_due}

-- a machine of one hart that has what the port has: the table words that it knows, its space, its TLB
-- and its tickets. Its spaces are live, it walks and serves nothing, and no request waits.
abbrev pub machine_of : PortState → State
machine_of port = record {
  memory = memory_of port.setup.layout port.view;
  spaces = map live_space port.setup.asids;
  harts = record {
    scheme = port.tlb.scheme;
    space = port.space;
    walk = None;
    serving = None;
    entries = port.tlb.entries;
  } ∷ [];
  tickets = port.tickets ∷ [];
  mailboxes = empty_mailbox port.setup.capacity ∷ [];
  capacity = port.setup.capacity;
}

-- the port of the only hart of its board, which has what this history leaves
pub record IsAlone (setup : Setup) (history : History) (port : PortState) : Type 0 where
  pub one : setup.harts ≡ 1
  pub setup_is : port.setup ≡ setup
  pub hart_is : port.hart ≡ 0
  pub stands : Stands setup (machine_of port) history

-- what the port answers to a call is due, and it then has what the longer history leaves
abbrev pub IsDueAtPort : Call → PortState → Reply → PortState → Type 0
IsDueAtPort call old answer new =
    (setup : Setup) (history : History) → IsAlone setup history old →
    (answer ≡ heard (asked setup call history).reply)
    × IsAlone setup (asked setup call history).history new

-- so it is with a list of calls
abbrev pub AreDueAtPort : List Call → PortState → List Reply → PortState → Type 0
AreDueAtPort calls old answers new =
    (setup : Setup) (history : History) → IsAlone setup history old →
    (answers ≡ answers_due setup history calls)
    × IsAlone setup (history_due setup history calls) new

-- so it is with what a machine answers
abbrev pub IsReplied : Call → State → Reply → State → Type 0
IsReplied call old answer new =
    (setup : Setup) (history : History) → Stands setup old history →
    (answer ≡ heard (asked setup call history).reply)
    × Stands setup new (asked setup call history).history

abbrev pub AreReplied : List Call → State → List Reply → State → Type 0
AreReplied calls old answers new =
    (setup : Setup) (history : History) → Stands setup old history →
    (answers ≡ answers_due setup history calls)
    × Stands setup new (history_due setup history calls)

-- the only port of a board that was just opened has what the empty history leaves
abbrev pub NewPortIsAlone : Type 0
NewPortIsAlone =
    (setup : Setup) (port : PortState) → IsSetup setup → setup.harts ≡ 1
    → ArePorts setup (name_of port ∷ []) → IsNew port → IsAlone setup [] port
