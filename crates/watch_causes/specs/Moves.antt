-- The moves of a trace: each write of satp, and each fence that is done, by its place among the fences
-- of the log.
use Rattle.std.specs.Prelude.{ℕ, Bool, ◌≡◌, ◌==◌, ◌<◌, not, if◌then◌else◌, List, [], ◌∷◌, ◌++◌, Option, Some, None, filter, get_or, length, reverse}
use Rattle.watch.specs.declared.trace.Record.{Record}
use Rattle.watch.specs.declared.trace.Record.TheVariants.{Fence, RemoteBegin, RemoteEnd, Satp}
use Rattle.watch.specs.declared.trace.Space.{Space}
use Rattle.watch.specs.Trace.{Trace, satp_of}
use Rattle.watch_engine.specs.Open.{newest}
use Rattle.watch_causes.specs.declared.log.Numbered.{Numbered}
use Rattle.watch_causes.specs.declared.moves.Move.{Move}
use Rattle.watch_causes.specs.declared.moves.Move.TheVariants.{Fences, Writes}
use Rattle.watch_causes.specs.declared.moves.Moves.{Moves}
use Rattle.watch_causes.specs.declared.moves.Open.{Open}
use Rattle.watch_causes.specs.Logs.{asks_for_fence, numbered}

-- the fences of the log, the oldest first, and how many
abbrev pub fences_of : Trace → List Numbered
fences_of trace = reverse (numbered asks_for_fence trace)

abbrev pub fence_count : Trace → ℕ
fence_count trace = length (numbered asks_for_fence trace)

abbrev pub asid_in : Option Space → Option ℕ
asid_in None = None
asid_in (Some space) = Some space.asid

-- the remote fences that have begun and not ended, the oldest first: of one token the newest counts
abbrev pub newest_open : ℕ → Option Open → List Open → Option Open
newest_open = newest (λ (o : Open). o.token)

abbrev pub is_not_under : ℕ → Open → Bool
is_not_under token o = not (o.token == token)

abbrev pub open_of : Trace → List Open
open_of [] = []
open_of (RemoteBegin hart token fence ∷ trace) =
    open_of trace ++ record { token = token; at = fence_count trace } ∷ []
open_of (RemoteEnd hart token ∷ trace) = filter (is_not_under token) (open_of trace)
open_of (_ ∷ trace) = open_of trace

-- the moves with the record after the trace
abbrev pub ended_by : Option Open → List Move
ended_by None = []
ended_by (Some o) = Fences o.at ∷ []

abbrev pub moved_by : Record → Trace → List Move
moved_by (Satp hart space) trace = Writes hart (asid_in space) ∷ []
moved_by (Fence hart rs1 rs2) trace = Fences (fence_count trace) ∷ []
moved_by (RemoteEnd hart token) trace = ended_by (newest_open token None (open_of trace))
moved_by _ trace = []

abbrev pub kept_with : Bool → List Move → List Move → List Move
kept_with keeps kept moved = if keeps then kept ++ moved else kept

-- each fence is one of the first so many of the log
abbrev pub IsWithin : ℕ → Move → Type 0
IsWithin count (Writes hart asid) = Unit {0}
IsWithin count (Fences at) = at < count

abbrev pub AreWithin : ℕ → List Move → Type 0
AreWithin count [] = Unit {0}
AreWithin count (m ∷ moves) = IsWithin count m × AreWithin count moves

-- a finding that begins: no start where its hart is under it, else so many moves have been kept
abbrev pub start_by : Bool → ℕ → Option ℕ
start_by under count = if under then None else Some count

-- these are the ASID in each hart's satp, and the open fences
pub record Tracks (trace : Trace) (m : Moves) : Type 0 where
  pub asids : (hart : ℕ) → get_or m.asids.items hart None ≡ asid_in (satp_of trace hart)
  pub begun : m.begun.items ≡ open_of trace
