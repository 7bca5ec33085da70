-- Machines with which the statements of the headline are tried: two harts with given entries,
-- waiting requests, spaces or walks.
use Rattle.std.specs.Prelude.{◌≡◌, ℕ, false, List, [], ◌∷◌, Option, Some, None}
use Rattle.pte.specs.declared.scheme.Scheme.TheVariants.{Sv39}
use Rattle.pte.specs.declared.permission.Access.TheVariants as access
use Rattle.walk.specs.Stage.{Stage}
use Rattle.spaces.specs.Held.{Held, memory_words}
use Rattle.tlb.specs.declared.store.Entry.{Entry}
use Rattle.shoot.specs.Mailbox.{MailboxState, empty_mailbox}
use Rattle.shoot.specs.Request.{Request}
use Rattle.shoot.specs.Tickets.{no_tickets}
use Rattle.history.specs.Setup.{Setup}
use Rattle.history.specs.Tables.{words_of}
use Rattle.history.specs.Turns.{History}
use Rattle.counterexamples.specs.WorkedRuns.{one_space, user}
use Rattle.stepcore.specs.Runs.{IsCoherent}
use Rattle.stepcore.specs.State.{HartState, State, live_space}

-- a hart in space 0 that holds these entries
abbrev pub hart_holding : List Entry → HartState
hart_holding entries =
    record { scheme = Sv39; space = 0; walk = None; serving = None; entries = entries }

-- a mailbox in which these requests wait
abbrev pub mailbox_with : List Request → MailboxState
mailbox_with waiting = record { waiting = waiting; outstanding = 0; closed = false; capacity = 4 }

-- table memory without words
abbrev pub no_memory : Held
no_memory = record { layout = one_space (8 ∷ 8 ∷ []); words = []; holders = [] }

-- a machine of two harts with this table memory, and with these requests in the mailbox from hart 0
-- to hart 1, and from 1 to 0
abbrev pub machine_over : Held → HartState → HartState → List Request → List Request → State
machine_over memory hart_0 hart_1 from_0 from_1 = record {
  memory = memory;
  spaces = live_space 1 ∷ [];
  harts = hart_0 ∷ hart_1 ∷ [];
  tickets = no_tickets 0 ∷ no_tickets 1 ∷ [];
  mailboxes = empty_mailbox 4 ∷ mailbox_with from_0 ∷ mailbox_with from_1 ∷ empty_mailbox 4 ∷ [];
  capacity = 4;
}

abbrev pub machine_of : HartState → HartState → List Request → List Request → State
machine_of = machine_over no_memory

abbrev pub machine_holding : List Entry → List Entry → State
machine_holding of_0 of_1 = machine_of (hart_holding of_0) (hart_holding of_1) [] []

-- no machine whose tables have the words that the history leaves, and whose harts hold these entries,
-- is coherent
abbrev pub NoneIsCoherent : Setup → History → List Entry → List Entry → Type 0
NoneIsCoherent setup history of_0 of_1 =
    (memory : Held) → ((ppn i : ℕ) → memory_words memory ppn i ≡ words_of setup history ppn i)
    → ¬ IsCoherent setup history (machine_over memory (hart_holding of_0) (hart_holding of_1) [] [])

abbrev pub machine_with : List Request → List Request → State
machine_with from_0 from_1 = machine_of (hart_holding []) (hart_holding []) from_0 from_1

-- a hart in this space, and a machine of two in these spaces
abbrev pub hart_in : ℕ → HartState
hart_in space =
    record { scheme = Sv39; space = space; walk = None; serving = None; entries = [] }

abbrev pub machine_in : ℕ → ℕ → State
machine_in of_0 of_1 = machine_of (hart_in of_0) (hart_in of_1) [] []

-- a walk that has come to this table, and a machine of two harts, each in no walk or in one to such
-- a table
abbrev pub walk_to : ℕ → Stage
walk_to table = record {
  va = 0x1000;
  access = access.Load;
  ctx = user;
  level = 1;
  table = table;
  global = false;
}

abbrev pub hart_walking : Option ℕ → HartState
hart_walking None = hart_in 0
hart_walking (Some table) = record {
  scheme = Sv39;
  space = 0;
  walk = Some (walk_to table);
  serving = None;
  entries = [];
}

abbrev pub machine_walking : Option ℕ → Option ℕ → State
machine_walking of_0 of_1 = machine_of (hart_walking of_0) (hart_walking of_1) [] []
