-- What is kept of the findings that have begun, so that their reach can be told.
use Rattle.std.specs.Prelude.{ℕ, Bool, true, false, ◌≡◌, ◌<◌, ◌≤◌, List, Option, Some, None, drop, get_or, is_some, length}
use Rattle.std.specs.BTreeMap.{get}
use Rattle.pte.specs.declared.scheme.Scheme.{Scheme}
use Rattle.watch.specs.Trace.{Trace, satp_of}
use Rattle.watch_engine.specs.declared.warning.Warning.{Warning}
use Rattle.watch_causes.specs.declared.begun.Begun.{Begun}
use Rattle.watch_causes.specs.declared.finding.Finding.{Finding}
use Rattle.watch_causes.specs.declared.moves.Move.{Move}
use Rattle.watch_causes.specs.declared.reaches.Reaches.{Reaches}
use Rattle.watch_causes.specs.Decisions.{decided}
use Rattle.watch_causes.specs.Findings.{Judged, finding_cmp}
use Rattle.watch_causes.specs.Moves.{AreWithin, Tracks, fence_count, fences_of}
use Rattle.watch_causes.specs.Reaches.{comes_back, is_left, is_under, is_used}

-- what the moves since a finding began decide of it, where the hart was not under it then
abbrev pub Stands : Scheme → Warning → ℕ → Trace → Option Bool → Type 0
Stands scheme w number trace None =
    (is_left scheme w number trace ≡ true)
    × (is_under w.entry (satp_of trace w.hart) ≡ false)
    × (comes_back scheme w number trace ≡ false)
Stands scheme w number trace (Some true) = comes_back scheme w number trace ≡ true
Stands scheme w number trace (Some false) =
    (is_left scheme w number trace ≡ false) × (comes_back scheme w number trace ≡ false)

-- a finding: with no start the hart was under it when it began, else so many moves had been kept
abbrev pub IsFrom : Scheme → Trace → List Move → Begun → Option ℕ → Type 0
IsFrom scheme trace moves b None = comes_back scheme b.warning b.number trace ≡ true
IsFrom scheme trace moves b (Some start) =
    (start ≤ length moves)
    × Stands scheme b.warning b.number trace
    (decided scheme (fences_of trace) b.warning (drop start moves))

pub record IsStart (scheme : Scheme) (trace : Trace) (moves : List Move) (b : Begun) (start : Option ℕ) : Type 0 where
  pub number : b.number ≤ length trace
  pub from : IsFrom scheme trace moves b start

pub record HasReached (scheme : Scheme) (trace : Trace) (verdicts : List Judged) (begun : List Begun) (r : Reaches) : Type 0 where
  pub moves : Tracks trace r.moves
  pub findings : r.begun.items ≡ begun
  pub within : AreWithin (fence_count trace) r.moves.kept.items
  pub used : (f : Finding) → is_some (get finding_cmp r.used f) ≡ is_used verdicts f
  pub long : length r.starts.items ≡ length begun
  pub starts :
      (i : ℕ) (d : Begun) → i < length begun
      → IsStart scheme trace r.moves.kept.items (get_or begun i d) (get_or r.starts.items i None)
  pub keeps : r.moves.keeps ≡ false → (i : ℕ) → get_or r.starts.items i None ≡ None
