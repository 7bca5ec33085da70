-- What a record does to what harts may hold: it changes the states of some items, and by what it
-- concerns it tells which these are.
use Rattle.std.specs.Prelude.{Bool, false, ◌≡◌, ◌&&◌, if◌then◌else◌}
use Rattle.std.specs.Prelude.{List, map, Option, Some, None, is_some}
use Rattle.std.specs.List.{list_any}
use Rattle.watch_engine.specs.declared.concern.Concern.{Concern}
use Rattle.watch_engine.specs.declared.held.Held.{Held}
use Rattle.watch_engine.specs.declared.keys.By.{By}
use Rattle.watch_engine.specs.declared.state.State.{State}
use Rattle.watch_engine.specs.Held.{with_state}
use Rattle.watch_engine.specs.Keys.{key_of}
use Rattle.watch_engine.specs.Places.{is_there, items_of}
use Rattle.watch_engine.specs.State.{is_gone}

-- the state to which it changes an item that is there, if it does; what it changes is of one of its
-- concerns
pub record Does : Type 0 where
  pub change : Held → Option State
  pub concerns : List Concern

abbrev pub or_same : Option State → State → State
or_same None s = s
or_same (Some t) s = t

-- what it makes of an item: what has gone stays so
abbrev pub changed : (Held → Option State) → Held → Held
changed change i = with_state (if is_gone i.state then i.state else or_same (change i) i.state) i

-- it is there, and the change is still to come
abbrev pub is_due : (Held → Option State) → Held → Bool
is_due change i = is_there i && is_some (change i)

-- what is there after it
abbrev pub all_changed : (Held → Option State) → List Held → List Held
all_changed change held = items_of (map (changed change) held)

-- nothing that is listed has gone
abbrev pub AreThere : List Held → Type 0
AreThere held = items_of held ≡ held

-- some items have been changed, each once, and all others are as they were
pub record IsPartly (change : Held → Option State) (old new : List Held) : Type 0 where
  pub all : map (changed change) new ≡ map (changed change) old
  pub keys : (by : By) → map (key_of by) new ≡ map (key_of by) old
  pub none :
      (test : Held → Bool) → list_any (λ i. test i && is_due change i) old ≡ false
      → list_any (λ i. test i && is_due change i) new ≡ false
