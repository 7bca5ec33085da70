-- The uses of stale mappings of a run, step by step.
use Rattle.std.specs.Prelude.{ℕ, zero, suc, ◌≡◌, List, [], ◌∷◌, Some, slice_get, Contains}
use Rattle.tlb.specs.Mappings.{Mapping}
use Rattle.history.specs.Setup.{Setup}
use Rattle.history.specs.declared.event.Event.{Event}
use Rattle.history.specs.Turns.{Turn, History}
use Rattle.history.specs.Due.{due}
use Rattle.history.specs.Runs.{with_turn}
use Rattle.stale.specs.declared.runs.UseAt.{UseAt}
use Rattle.stale.specs.Stale.{UsesStale}
use Rattle.stale.specs.Uses.{Tells}

-- the history after the first n events, each answered as is due
abbrev pub history_at : Setup → History → List Event → ℕ → History
history_at setup history events zero = history
history_at setup history [] (suc n) = history
history_at setup history (event ∷ events) (suc n) =
    history_at setup (with_turn event (due setup history event) history) events n

-- an event with the reply that is due
abbrev pub due_turn : Setup → History → Event → Turn
due_turn setup history event = record { event = event; reply = due setup history event }

-- event n, from 0 on, uses this stale mapping of the hart
pub record UsedAt (setup : Setup) (history : History) (events : List Event) (n hart : ℕ)
    (m : Mapping) : Type 0 where
  pub event : Event
  pub is : slice_get events n ≡ Some event
  pub uses : UsesStale setup (due_turn setup (history_at setup history events n) event)
      (history_at setup history events n) hart m

-- the use is in the list
pub record IsTold (uses : List UseAt) (n hart : ℕ) (m : Mapping) : Type 0 where
  pub told : UseAt
  pub among : Contains uses told
  pub step : told.step ≡ n
  pub tells : Tells (Some told.used) hart m
