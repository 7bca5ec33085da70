-- What is reported of a run: the mappings that become stale step by step, and the stale ones that
-- are used.
use Rattle.std.specs.Prelude.{⊤, ℕ, Bool, false, ◌≡◌, ◌≢◌, ◌+◌, ◌<◌, ◌≤◌, List, ◌∷◌, length, Option, Some, None, slice_get, All, AllPairs, Contains}
use Rattle.tlb.specs.declared.store.Entry.{Entry}
use Rattle.walk.specs.Maps.{LiesIn}
use Rattle.tlb.specs.Mappings.{Mapping, IsMappingOf}
use Rattle.history.specs.Setup.{Setup}
use Rattle.history.specs.declared.event.Event.{Event}
use Rattle.history.specs.declared.event.Event.TheVariants.{Unmap, Protect}
use Rattle.history.specs.declared.reply.Reply.{Reply}
use Rattle.history.specs.Turns.{Turn, History, is_opened, opened_ticket}
use Rattle.history.specs.Harts.{entries_of}
use Rattle.history.specs.Due.{due}
use Rattle.stepcore.specs.State.{State, hart_at}
use Rattle.stale.specs.declared.changes.Change.{Change}
use Rattle.stale.specs.declared.hits.StaleUse.{StaleUse}
use Rattle.stale.specs.declared.report.Opening.{Opening}
use Rattle.stale.specs.declared.items.StaleAt.{StaleAt}
use Rattle.stale.specs.declared.items.StaleItem.{StaleItem}
use Rattle.stale.specs.declared.items.StaleItem.TheVariants.{Became, Used}
use Rattle.stale.specs.Leaves.{smaller, IsHeld}
use Rattle.stale.specs.Stale.{BecomesStale}
use Rattle.stale.specs.Uses.{Tells}
use Rattle.stale.specs.UseRuns.{due_turn, history_at, UsedAt}

-- an item says that this mapping of a hart becomes stale: it is one of the entry, in the page
abbrev pub TellsBecoming : StaleItem → ℕ → Mapping → Type 0
TellsBecoming (Became became) hart m =
    (hart ≡ became.hart) × IsMappingOf became.entry m × LiesIn became.page m.page
TellsBecoming (Used use_) hart m = ⊥

-- or that the hart uses it
abbrev pub TellsUse : StaleItem → ℕ → Mapping → Type 0
TellsUse (Became became) hart m = ⊥
TellsUse (Used use_) hart m = Tells (Some use_) hart m

-- or that a hart opened an order under a ticket
abbrev pub TellsOrder : StaleItem → ℕ → ℕ → Type 0
TellsOrder (Became became) home ticket = (home ≡ became.home) × (ticket ≡ became.ticket)
TellsOrder (Used use_) home ticket = ⊥

-- or names this entry of a hart
abbrev pub TellsEntry : StaleItem → ℕ → Entry → Type 0
TellsEntry (Became became) hart e = (hart ≡ became.hart) × (e ≡ became.entry)
TellsEntry (Used use_) hart e = ⊥

-- T holds of some item of the step
pub record IsAmong (items : List StaleAt) (n : ℕ) (T : StaleItem → Type 0) : Type 0 where
  pub told : StaleAt
  pub among : Contains items told
  pub step : told.step ≡ n
  pub tells : T told.item

-- the items say that the mapping of the hart becomes stale by event n; that the hart uses it
-- there; and that event n, of this hart, opened an order under this ticket
abbrev pub IsToldBecoming : List StaleAt → ℕ → ℕ → Mapping → Type 0
IsToldBecoming items n hart m = IsAmong items n (λ item. TellsBecoming item hart m)

abbrev pub IsToldUse : List StaleAt → ℕ → ℕ → Mapping → Type 0
IsToldUse items n hart m = IsAmong items n (λ item. TellsUse item hart m)

abbrev pub IsToldOrder : List StaleAt → ℕ → ℕ → ℕ → Type 0
IsToldOrder items n home ticket = IsAmong items n (λ item. TellsOrder item home ticket)

-- and that some mapping of this entry of the hart becomes stale there
abbrev pub IsToldEntry : List StaleAt → ℕ → ℕ → Entry → Type 0
IsToldEntry items n hart e = IsAmong items n (λ item. TellsEntry item hart e)

-- the steps of the items never decrease
abbrev pub InOrder : List StaleAt → Type 0
InOrder items = AllPairs (λ earlier later. earlier.step ≤ later.step) items

-- and none is after this one
pub record InOrderTo (items : List StaleAt) (last : ℕ) : Type 0 where
  pub in_order : InOrder items
  pub to : All (λ item. item.step ≤ last) items

-- no element occurs twice in the list
abbrev pub AreDifferent : {X : Type 0} → List X → Type 0
AreDifferent xs = AllPairs (λ a b. a ≢ b) xs

-- two items are of one entry of a hart, or both are uses
abbrev pub AreOfOne : StaleItem → StaleItem → Type 0
AreOfOne (Became a) (Became b) = (a.hart ≡ b.hart) × (a.entry ≡ b.entry)
AreOfOne (Used a) (Used b) = ⊤
AreOfOne _ _ = ⊥

-- and of one step
abbrev pub AreOfOneStep : StaleAt → StaleAt → Type 0
AreOfOneStep a b = (a.step ≡ b.step) × AreOfOne a.item b.item

-- nothing is reported twice: no step has two items of one entry of a hart, or two uses
abbrev pub TellsOnce : List StaleAt → Type 0
TellsOnce items = AllPairs (λ a b. ¬ AreOfOneStep a b) items

-- event n, from 0 on, makes the mapping of the hart stale
pub record BecomesAt (setup : Setup) (history : History) (events : List Event) (n hart : ℕ)
    (m : Mapping) : Type 0 where
  pub event : Event
  pub is : slice_get events n ≡ Some event
  pub becomes : BecomesStale setup (due_turn setup (history_at setup history events n) event)
      (history_at setup history events n) hart m

-- the turn makes some mapping of this entry stale, and the TLB of the hart holds the entry
pub record EntryBecomesStale (setup : Setup) (turn : Turn) (history : History) (hart : ℕ)
    (e : Entry) : Type 0 where
  pub held : Contains (entries_of setup (turn ∷ history) hart) e
  pub mapping : Mapping
  pub is : IsMappingOf e mapping
  pub becomes : BecomesStale setup turn history hart mapping

-- event n, from 0 on, does so
pub record EntryBecomesAt (setup : Setup) (history : History) (events : List Event) (n hart : ℕ)
    (e : Entry) : Type 0 where
  pub event : Event
  pub is : slice_get events n ≡ Some event
  pub becomes : EntryBecomesStale setup (due_turn setup (history_at setup history events n) event)
      (history_at setup history events n) hart e

-- the turn is an unmapping or a change of flags, and opens an order
abbrev pub is_edit : Event → Reply → Bool
is_edit (Unmap hart place page named) reply = is_opened reply
is_edit (Protect hart place page flags named) reply = is_opened reply
is_edit _ reply = false

-- the event is an edit of a page by this hart
abbrev pub IsEditOf : ℕ → Event → Type 0
IsEditOf home (Unmap hart place page named) = hart ≡ home
IsEditOf home (Protect hart place page flags named) = hart ≡ home
IsEditOf home _ = ⊥

-- event n, from 0 on, is an unmapping or a change of flags by this hart, and opens an order under
-- this ticket
pub record OpensAt (setup : Setup) (history : History) (events : List Event)
    (n home ticket : ℕ) : Type 0 where
  pub event : Event
  pub is : slice_get events n ≡ Some event
  pub edit : IsEditOf home event
  pub opened : opened_ticket (due setup (history_at setup history events n) event) ≡ Some ticket

-- the same by the number of the step, from 1 on
abbrev pub BecomesBy : Setup → History → List Event → ℕ → ℕ → Mapping → Type 0
BecomesBy setup history events number hart m =
    (n : ℕ) × (number ≡ n + 1) × BecomesAt setup history events n hart m

abbrev pub EntryBecomesBy : Setup → History → List Event → ℕ → ℕ → Entry → Type 0
EntryBecomesBy setup history events number hart e =
    (n : ℕ) × (number ≡ n + 1) × EntryBecomesAt setup history events n hart e

abbrev pub UsedBy : Setup → History → List Event → ℕ → ℕ → Mapping → Type 0
UsedBy setup history events number hart m =
    (n : ℕ) × (number ≡ n + 1) × UsedAt setup history events n hart m

abbrev pub OpensBy : Setup → History → List Event → ℕ → ℕ → ℕ → Type 0
OpensBy setup history events number home ticket =
    (n : ℕ) × (number ≡ n + 1) × OpensAt setup history events n home ticket

-- what is reported of an entry that holds the leaf that was changed
abbrev pub became_of : Opening → ℕ → Entry → StaleAt
became_of opening hart e = record {
  step = opening.step;
  item = Became (record {
    hart = hart;
    entry = e;
    page = smaller e.page opening.change.page;
    home = opening.home;
    ticket = opening.ticket;
  });
}

pub record IsItemOf (opening : Opening) (hart : ℕ) (e : Entry) (item : StaleAt) : Type 0 where
  pub held : IsHeld opening.change e
  pub is : item ≡ became_of opening hart e

-- of an entry, if there is one; and of one of the first entries of a TLB
abbrev pub IsOfEntry : Opening → ℕ → Option Entry → StaleAt → Type 0
IsOfEntry opening hart None item = ⊥
IsOfEntry opening hart (Some e) item = IsItemOf opening hart e item

abbrev pub IsOfEntries : Opening → ℕ → List Entry → ℕ → StaleAt → Type 0
IsOfEntries opening hart entries n item =
    (age : ℕ) × (age < n) × IsOfEntry opening hart (slice_get entries age) item

-- of some entry of some hart below this number
abbrev pub IsOfHarts : State → Opening → ℕ → StaleAt → Type 0
IsOfHarts m opening n item =
    (hart : ℕ) × (hart < n)
    × IsOfEntries opening hart (hart_at m hart).entries (length (hart_at m hart).entries) item

-- the hart of an edit of a page
abbrev pub home_in : Event → ℕ
home_in (Unmap hart place page named) = hart
home_in (Protect hart place page flags named) = hart
home_in _ = 0

-- what is reported of an event that changes a leaf, once it was answered: something if it opened
-- an order
abbrev pub IsOfTicket : State → Change → ℕ → ℕ → Option ℕ → StaleAt → Type 0
IsOfTicket m change home step None item = ⊥
IsOfTicket m change home step (Some ticket) item =
    IsOfHarts m (record { step = step; home = home; ticket = ticket; change = change })
    (length m.harts) item

abbrev pub IsOfChange : State → Option Change → ℕ → ℕ → Option ℕ → StaleAt → Type 0
IsOfChange m None home step ticket item = ⊥
IsOfChange m (Some change) home step ticket item = IsOfTicket m change home step ticket item

-- and of a use
abbrev pub IsOfUse : Option StaleUse → ℕ → StaleAt → Type 0
IsOfUse None step item = ⊥
IsOfUse (Some use_) step item = item ≡ record { step = step; item = Used use_ }

-- items of this kind are added: where nothing is reported twice, and nothing of such an item is
-- reported, nothing is reported twice afterwards
abbrev pub AddsOnce : (StaleAt → Type 0) → List StaleAt → List StaleAt → Type 0
AddsOnce IsNew old new =
    TellsOnce old
    → ((item : StaleAt) → IsNew item → All (λ told. ¬ AreOfOneStep told item) old)
    → TellsOnce new

-- no TLB holds an entry twice
abbrev pub HoldOnce : State → Type 0
HoldOnce m = (hart : ℕ) → hart < length m.harts → AreDifferent (hart_at m hart).entries

-- each item is of a step before this one
abbrev pub AreBefore : List StaleAt → ℕ → Type 0
AreBefore items step = All (λ item. item.step < step) items
