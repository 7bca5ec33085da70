-- What a seat knows of its orders after each kind of step.
use Rattle.std.specs.Prelude.{ℕ, ◌≡◌, ◌+◌, ◌<◌, ◌⊎◌, ◌||◌, ◌==◌, Bool, if◌then◌else◌, is_some, true, false, List, [], ◌∷◌, map, Option, Some, None}
use Rattle.pte.specs.declared.address.What.{What}
use Rattle.pte.specs.Address.{IsPage, Span}
use Rattle.walk.specs.Pointers.{pointed}
use Rattle.spaces.specs.declared.places.Place.{Place}
use Rattle.spaces.specs.declared.wishes.Wish.{Wish}
use Rattle.spaces.specs.declared.wishes.Wish.TheVariants.{Map, Unmap, Protect}
use Rattle.spaces.specs.declared.configuration.Config.{Config}
use Rattle.spaces.specs.Layout.{Layout, layout_of}
use Rattle.spaces.specs.Edits.{Store}
use Rattle.tlb.specs.Service.{after_service}
use Rattle.shoot.specs.Acknowledgement.{IsAskable, acknowledgement}
use Rattle.views.specs.declared.view.Cause.{Cause}
use Rattle.views.specs.declared.view.Cause.TheVariants.{Unmapped, Other}
use Rattle.views.specs.declared.view.CellStep.{CellStep}
use Rattle.views.specs.declared.view.CellStep.TheVariants.{Found, Stored}
use Rattle.views.specs.declared.view.Order.{Order}
use Rattle.views.specs.declared.view.View.{View}
use Rattle.views.specs.Rule.{cell, size}
use Rattle.views.specs.Orders.{asked, dropping, is_in, lies_over}
use Rattle.views.specs.Turns.{edited}

-- a leaf that is mapped over the page of an unmapping marks it anew
abbrev pub marked : Place → Span → Order → Order
marked place page k = record k { anew = lies_over k.cause place page || k.anew }

-- an order that begins once the hart made this many stores
abbrev pub fresh : ℕ → Cause → ℕ → Order
fresh ticket cause stores = record {
  ticket = ticket;
  cause = cause;
  anew = false;
  since = stores;
  armed = [];
  collected = [];
}

-- an order that follows no store
abbrev pub ordered : ℕ → What → View → View
ordered ticket what v = record v { orders = fresh ticket (Other what) v.stores ∷ v.orders }

-- the orders after an edit, which opens one under this ticket unless it maps; the hart then has
-- made this many stores
abbrev pub orders_after : Config → Wish → ℕ → Store → ℕ → List Order → List Order
orders_after c (Map place page ppn flags) ticket store stores ks =
    if is_some (pointed (Some store.word)) then ks else map (marked place page) ks
orders_after c (Unmap place page) ticket store stores ks =
    fresh ticket (Unmapped place page) stores ∷ ks
orders_after c (Protect place page flags) ticket store stores ks =
    fresh ticket (Other (dropping c place page)) stores ∷ ks

-- the store of an edit by the home
abbrev pub noted : Config → Wish → ℕ → View → Store → View
noted c wish ticket v store =
    edited (layout_of c) v store (orders_after c wish ticket store (v.stores + 1) v.orders)

-- the page is one, and what the edit asks the harts to drop can be asked
abbrev pub IsAsked : Config → Wish → Type 0
IsAsked c (Map place page ppn flags) = IsPage page
IsAsked c (Unmap place page) = IsAskable (dropping c place page)
IsAsked c (Protect place page flags) = IsAskable (dropping c place page)

-- the open order of a ticket, which is the last one under it, becomes another
abbrev pub for_ticket : ℕ → (Order → Order) → List Order → List Order
for_ticket ticket f [] = []
for_ticket ticket f (order ∷ orders) =
    if order.ticket == ticket then f order ∷ orders else order ∷ for_ticket ticket f orders

-- the cell of a ticket between two harts, on a view's board
abbrev pub cell_by : View → ℕ → ℕ → ℕ → ℕ
cell_by v sender ticket receiver = cell (layout_of v.config) sender ticket receiver

-- the sender stored 0 to the cell of a hart
abbrev pub armed : ℕ → Order → Order
armed to order = record order { armed = to ∷ order.armed }

abbrev pub with_armed : ℕ → ℕ → View → View
with_armed ticket to v =
    record v {
      orders = for_ticket ticket (armed to) v.orders;
      cell_steps = Stored (cell_by v v.hart ticket to) 0 ∷ v.cell_steps;
    }

-- the receiver drops what a request of another hart asks, and stores its word to that hart's cell
abbrev pub acknowledged : ℕ → ℕ → What → View → View
acknowledged from ticket what v =
    record v {
      entries = after_service v.entries what;
      cell_steps = Stored (cell_by v from ticket v.hart) (acknowledgement what) ∷ v.cell_steps;
    }

-- a hart is collected
abbrev pub collected : ℕ → Order → Order
collected from order = record order { collected = from ∷ order.collected }

abbrev pub with_collected : ℕ → ℕ → View → View
with_collected ticket from v = record v { orders = for_ticket ticket (collected from) v.orders }

-- a load of a cell found a word
abbrev pub with_look : ℕ → ℕ → View → View
with_look at word v = record v { cell_steps = Found at word ∷ v.cell_steps }

-- the sender looked at the cell of a hart and found this word; the hart is collected if it is the
-- one of what was asked
abbrev pub looked : ℕ → ℕ → Bool → ℕ → View → View
looked ticket from is_found word v =
    with_look (cell_by v v.hart ticket from) word (if is_found then with_collected ticket from v
    else v)

-- after a load a view says of cells what it said before, or that and this step
abbrev pub IsTold : CellStep → View → View → Type 0
IsTold step v w = (w.cell_steps ≡ v.cell_steps) ⊎ (w.cell_steps ≡ step ∷ v.cell_steps)

-- after a store a view says that it was made: one of a table word is counted, and one to a cell is
-- the last step on cells
abbrev pub IsStored : Layout → ℕ → ℕ → View → View → Type 0
IsStored l at word v w =
    ((at < size l) × (w.stores ≡ v.stores + 1) × (w.cell_steps ≡ v.cell_steps))
    ⊎ ((w.stores ≡ v.stores) × (w.cell_steps ≡ Stored at word ∷ v.cell_steps))

-- the word that the last step on a cell found or stored
abbrev pub last_word : List CellStep → ℕ
last_word [] = 0
last_word (Found at word ∷ steps) = word
last_word (Stored at word ∷ steps) = word

-- the sender is the receiver: it drops what is asked, and is collected
abbrev pub self_acked : ℕ → What → View → View
self_acked ticket what v = record v {
  entries = after_service v.entries what;
  orders = for_ticket ticket (collected v.hart) v.orders;
  cell_steps = Stored (cell_by v v.hart ticket v.hart) (acknowledgement what) ∷ v.cell_steps;
}

-- the open order of a ticket
abbrev pub order_of_ticket : ℕ → List Order → Option Order
order_of_ticket ticket [] = None
order_of_ticket ticket (order ∷ orders) =
    if order.ticket == ticket then Some order else order_of_ticket ticket orders

-- the open order of the ticket asks for this
pub record IsAsking (c : Config) (v : View) (ticket : ℕ) (what : What) : Type 0 where
  pub order : Order
  pub is : order_of_ticket ticket v.orders ≡ Some order
  pub asks : asked c order.cause ≡ what

-- and the cell of this hart was armed for it
pub record IsAwaiting (c : Config) (v : View) (ticket from : ℕ) (what : What) : Type 0 where
  pub asking : IsAsking c v ticket what
  pub armed : is_in from asking.order.armed ≡ true
