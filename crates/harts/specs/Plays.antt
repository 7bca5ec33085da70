-- What the harts of a live run do: each the steps of its script in order, by its port and its gate.
use Rattle.std.specs.Prelude.{ℕ, suc, ◌≡◌, ◌≢◌, ◌+◌, true, min, List, [], ◌∷◌, All, length, map, Some, None, slice_get, slice_set}
use Rattle.history.specs.Setup.{Setup}
use Rattle.history.specs.declared.live_step.LiveStep.{LiveStep}
use Rattle.history.specs.declared.live_step.LiveStep.TheVariants.{Fence, Wait}
use Rattle.history.specs.declared.reply.Reply.TheVariants.{Ok}
use Rattle.board.specs.Ports.{AreNew, ArePorts, PortState, name_of}
use Rattle.board.specs.Tables.{after_fence}
use Rattle.harts.specs.Gates.{GateSays, halts_none}
use Rattle.harts.specs.declared.live_reply.LiveReply.{LiveReply}
use Rattle.harts.specs.declared.live_reply.LiveReply.TheVariants.{Halted, Replied, Timeout}
use Rattle.harts.specs.Performs.{Performs, TakesTurn, Waits, is_waiting}
use Rattle.harts.specs.Scripts.{scripts_of}

-- the number of the next step; past the last number of 32 bits it stays
abbrev pub next_number : ℕ → ℕ
next_number number = min (number + 1) 4294967295

-- what the harts of a live run share: the gate, how many they are, and how many turns a wait takes
pub record LiveRun : Type 1 where
  pub gate : GateSays
  pub harts : ℕ
  pub turns : ℕ

-- The steps of a script are done in order by a port, each once the gate let it pass, and the gate is
-- told of its end. A script ends with its last step, or before the one that the gate halts, which is
-- answered `Halted`. The step before the first has this number.
unfoldable pub Plays : LiveRun → (hart number : ℕ) → List LiveStep → PortState → List LiveReply
    → PortState → Type 0
Plays run hart number [] port [] after = after ≡ port
Plays run hart number [] port (reply ∷ replies) after = ⊥
Plays run hart number (step ∷ steps) port [] after = ⊥
Plays run hart number (step ∷ steps) port (Halted ∷ []) after =
    run.gate.may_halt hart (next_number number) × (after ≡ port)
Plays run hart number (step ∷ steps) port (Halted ∷ reply ∷ replies) after = ⊥
Plays run hart number (step ∷ steps) port (reply ∷ replies) after =
    run.gate.may_pass hart (next_number number) × run.gate.was_told hart (next_number number)
    × ((next : PortState) × Performs run.harts run.turns step port next reply
    × Plays run hart (next_number number) steps next replies after)

-- what a hart begins its script with
pub record Start : Type 0 where
  pub hart : ℕ
  pub port : PortState
  pub steps : List LiveStep

abbrev pub start_of : ℕ → PortState → List LiveStep → Start
start_of hart port steps = record { hart = hart; port = port; steps = steps }

-- the hart has played its script, and what its port did afterwards is not said
abbrev pub HasPlayed : LiveRun → Start → List LiveReply → Type 0
HasPlayed run start replies =
    (after : PortState) × Plays run start.hart 0 start.steps start.port replies after

-- each hart has played its script
unfoldable pub HavePlayed : LiveRun → List Start → List (List LiveReply) → Type 0
HavePlayed run [] [] = Unit {0}
HavePlayed run [] (own ∷ replies) = ⊥
HavePlayed run (start ∷ starts) [] = ⊥
HavePlayed run (start ∷ starts) (own ∷ replies) =
    HasPlayed run start own × HavePlayed run starts replies

-- the harts from a number on begin with these ports and scripts
abbrev pub starts_from : ℕ → List PortState → List (List LiveStep) → List Start
starts_from hart (port ∷ ports) (steps ∷ scripts) =
    start_of hart port steps ∷ starts_from (suc hart) ports scripts
starts_from hart _ _ = []

-- the steps of setup are done in order, each by the port of its hart
unfoldable pub SetsUp : (harts turns : ℕ) → List PortState → List (ℕ × LiveStep) → List LiveReply
    → List PortState → Type 0
SetsUp harts turns ports [] [] after = after ≡ ports
SetsUp harts turns ports [] (reply ∷ replies) after = ⊥
SetsUp harts turns ports (step ∷ steps) [] after = ⊥
SetsUp harts turns ports (step ∷ steps) (reply ∷ replies) after =
    (port : PortState) × (next : PortState) × (slice_get ports step.0 ≡ Some port)
    × Performs harts turns step.1 port next reply
    × SetsUp harts turns (slice_set ports step.0 next) steps replies after

-- Ports that were just opened made the steps of setup, and then each hart played its script, the
-- empty one where it has none.
pub record HaveRun (run : LiveRun) (setup : Setup) (steps : List (ℕ × LiveStep))
    (answers : List LiveReply) (scripts : List (List LiveStep)) (replies : List (List LiveReply))
    : Type 0 where
  pub opened : List PortState
  pub are_new : AreNew opened
  pub are_ports : ArePorts setup (map name_of opened)
  pub ready : List PortState
  pub set_up : SetsUp run.harts run.turns opened steps answers ready
  pub played : HavePlayed run (starts_from 0 ready (scripts_of setup.harts scripts)) replies

-- what an open gate says makes each script come to its end: no reply is `Halted`
abbrev pub OpenGateHaltsNone : Type 0
OpenGateHaltsNone =
    (harts turns hart number : ℕ) (steps : List LiveStep) (port after : PortState)
    (replies : List LiveReply)
    → Plays (record { gate = halts_none; harts = harts; turns = turns }) hart number steps port
    replies after
    → (length replies ≡ length steps) × All (λ reply. reply ≢ Halted) replies

-- a gate that passes the first step of each script and halts the second
abbrev pub passes_one : GateSays
passes_one = record {
  may_pass = λ hart step. step ≡ 1;
  may_halt = λ hart step. step ≡ 2;
  was_told = λ hart step. step ≡ 1;
}

-- a script of a fence, and of a wait that is halted: the fence is made, and nothing else
abbrev pub WorkedScript : Type 0
WorkedScript =
    (port after : PortState) (replies : List LiveReply)
    → Plays (record { gate = passes_one; harts = 2; turns = 0 }) 1 0
    (Fence None None ∷ Wait 0 ∷ []) port replies after
    → (replies ≡ Replied Ok ∷ Halted ∷ []) × (after ≡ after_fence port None None)

-- a wait of no turns, and one of one turn that found the ticket still waiting
abbrev pub WorkedWaits : Type 0
WorkedWaits =
    (port after : PortState) (harts ticket : ℕ) (reply : LiveReply)
    → (Waits harts 0 ticket port after reply → (reply ≡ Timeout) × (after ≡ port))
    × (Waits harts 1 ticket port after reply → reply ≡ Timeout
    → (found : LiveReply) × TakesTurn harts ticket port after found × (is_waiting found ≡ true))
