-- How long an order lasts: what each step leaves of it, and what marks it anew.
use Rattle.std.specs.Prelude.{◌≡◌, ◌≢◌, ◌+◌, Result, ◌<◌, ◌≤◌, ◌⊎◌, ◌↔◌, Contains, ℕ, Bool, true, false, is_some, List, [], ◌∷◌, map, length, slice_index, Option, Some, None, Err}
use mathlib.Core.Option.{some}
use lib.ListN.{get_elem?}
use Rattle.pte.specs.declared.flags.PteFlags.{PteFlags}
use Rattle.pte.specs.declared.address.What.{What}
use Rattle.pte.specs.declared.address.What.TheVariants.{PageOf}
use Rattle.pte.specs.Address.{IsCanonical, IsPage, Overlap, Span, level_count, top_level, vpn_of}
use Rattle.walk.specs.Pointers.{pointed}
use Rattle.pte.specs.declared.permission.Access.{Access}
use Rattle.pte.specs.declared.permission.Ctx.{Ctx}
use Rattle.walk.specs.declared.found_or_trap.Found.{Found as FoundOf}
use Rattle.walk.specs.declared.found_or_trap.Trap.{Trap}
use Rattle.walk.specs.declared.found_or_trap.Why.TheVariants.{NotCanonical}
use Rattle.walk.specs.Answer.{page_trap}
use Rattle.walk.specs.Leads.{Tables}
use Rattle.walk.specs.Loads.{answer_after}
use Rattle.walk.specs.Stage.{Stage, start_of}
use Rattle.spaces.specs.declared.configuration.Config.{Config}
use Rattle.spaces.specs.declared.places.Place.{Place}
use Rattle.spaces.specs.declared.places.Place.TheVariants.{Space, Kernel}
use Rattle.spaces.specs.declared.wishes.Wish.{Wish}
use Rattle.spaces.specs.declared.wishes.Wish.TheVariants.{Map, Unmap, Protect}
use Rattle.spaces.specs.Edits.{Store}
use Rattle.spaces.specs.Layout.{Layout, first_window_slot, root_ppn}
use Rattle.spaces.specs.Held.{memory_words}
use Rattle.walk.specs.Outcome.{Outcome}
use Rattle.tlb.specs.declared.store.Entry.{Entry}
use Rattle.views.specs.declared.view.Cause.{Cause}
use Rattle.views.specs.declared.view.Cause.TheVariants.{Unmapped, Other}
use Rattle.shoot.specs.Acknowledgement.{acknowledgement}
use Rattle.views.specs.declared.view.CellStep.{CellStep}
use Rattle.views.specs.declared.view.CellStep.TheVariants.{Found, Stored}
use Rattle.views.specs.declared.view.Order.{Order}
use Rattle.views.specs.declared.view.Read.{Read}
use Rattle.views.specs.declared.view.View.{View}
use Rattle.views.specs.Rule.{Has, cell, memory_of, size, board_size}
use Rattle.shoot.specs.declared.TheConstants.{MAX_TICKETS}
use Rattle.views.specs.Orders.{IsAsidFor, IsLive, IsSince, asid_for, asid_of_space, dropping, is_in}
use Rattle.views.specs.OrderTurns.{acknowledged, last_word, looked, noted, order_of_ticket, ordered, self_acked, with_armed}
use Rattle.views.specs.Turns.{walked}
use Rattle.views.specs.OnBoard.{HasReads}
use Rattle.views.specs.Walks.{AnswersByLoads, Walked}
use Rattle.views.specs.Board.{Board, TranslatesNone}
use Rattle.atomic_table.specs.Table.{State}

-- of each order its ticket, what it follows, and whether it was marked anew
abbrev pub causes : View → List (ℕ × Cause × Bool)
causes v = map (λ order. (order.ticket, order.cause, order.anew)) v.orders

-- an unmapping begins an order that is live, with no cell armed and no hart collected; those before
-- stay
abbrev pub UnmappingBeginsLive : Type 0
UnmappingBeginsLive =
    (c : Config) (place : Place) (page : Span) (ticket : ℕ) (v : View) (store : Store)
    → (order : Order)
    × (order_of_ticket ticket (noted c (Unmap place page) ticket v store).orders ≡ Some order)
    × IsLive order place page × (order.armed ≡ []) × (order.collected ≡ [])
    × ((noted c (Unmap place page) ticket v store).orders ≡ order ∷ v.orders)

-- arming, serving, looking for an acknowledgement, acknowledging oneself and walking change of no
-- order what it follows, and mark none
abbrev pub StepsMarkNothing : Type 0
StepsMarkNothing =
    (v : View) (ticket hart word : ℕ) (what : What) (is_found : Bool) (root : ℕ) (st : Stage)
    (reads : List Read) →
    (causes (with_armed ticket hart v) ≡ causes v)
    × (causes (acknowledged hart ticket what v) ≡ causes v)
    × (causes (looked ticket hart is_found word v) ≡ causes v)
    × (causes (self_acked ticket what v) ≡ causes v)
    × (causes (walked v root st reads word) ≡ causes v)

-- nor does the store of an edit that maps no leaf, or an order that follows no store: they add
-- their own
abbrev pub EditsMarkNothing : Type 0
EditsMarkNothing =
    (c : Config) (v : View) (ticket : ℕ) (store : Store) (place : Place) (page : Span) (ppn : ℕ)
    (flags : PteFlags) (what : What) →
    (causes (ordered ticket what v) ≡ (ticket, Other what, false) ∷ causes v)
    × (causes (noted c (Unmap place page) ticket v store)
    ≡ (ticket, Unmapped place page, false) ∷ causes v)
    × (causes (noted c (Protect place page flags) ticket v store)
    ≡ (ticket, Other (PageOf page (asid_for c place)), false) ∷ causes v)
    × (is_some (pointed (Some store.word)) ≡ true
    → causes (noted c (Map place page ppn flags) ticket v store) ≡ causes v)

-- an order but for its mark
abbrev pub unmarked : Order → Order
unmarked order = record order { anew = false }

-- A map opens no order and drops none: each stands where it stood, and all of it but its mark
-- stays. It marks only what follows an unmapping in the same place of a page that it overlaps, and
-- by a leaf.
abbrev pub MarkedByALeafOver : Type 0
MarkedByALeafOver =
    (c : Config) (v : View) (ticket : ℕ) (store : Store) (place : Place) (page : Span) (ppn : ℕ)
    (flags : PteFlags)
    → (map unmarked (noted c (Map place page ppn flags) ticket v store).orders
    ≡ map unmarked v.orders)
    × ((n : ℕ) (order later : Order) → get_elem? v.orders n ≡ some order
    → get_elem? (noted c (Map place page ppn flags) ticket v store).orders n ≡ some later
    → order.anew ≡ false → later.anew ≡ true
    → (over : Span) × (order.cause ≡ Unmapped place over) × Overlap over page)

-- an order later: of the same ticket, after the same cause, begun at the same store, and with no hart taken from those whose
-- cells were armed for it or from those that were collected
abbrev pub Follows : Order → Order → Type 0
Follows order later =
    (later.ticket ≡ order.ticket) × (later.cause ≡ order.cause) × (later.since ≡ order.since)
    × ((hart : ℕ) → is_in hart order.armed ≡ true → is_in hart later.armed ≡ true)
    × ((hart : ℕ) → is_in hart order.collected ≡ true → is_in hart later.collected ≡ true)

-- `begun` orders began; each that stood before stands that many places further down, as it is later
abbrev pub AreKept : ℕ → List Order → List Order → Type 0
AreKept begun orders later =
    (n : ℕ) (order : Order) → get_elem? orders n ≡ some order
    → (kept : Order) × (get_elem? later (begun + n) ≡ some kept) × Follows order kept

-- arming, serving, looking for an acknowledgement, acknowledging oneself and walking keep each
-- order where it stands, and an order that follows no store begins before them
abbrev pub StepsKeepOrders : Type 0
StepsKeepOrders =
    (v : View) (ticket hart word : ℕ) (what : What) (is_found : Bool) (root : ℕ) (st : Stage)
    (reads : List Read) →
    AreKept 0 v.orders (with_armed ticket hart v).orders
    × AreKept 0 v.orders (acknowledged hart ticket what v).orders
    × AreKept 0 v.orders (looked ticket hart is_found word v).orders
    × AreKept 0 v.orders (self_acked ticket what v).orders
    × AreKept 0 v.orders (walked v root st reads word).orders
    × AreKept 1 v.orders (ordered ticket what v).orders

-- so does the store of an edit: a map begins no order, and each other edit one
abbrev pub EditsKeepOrders : Type 0
EditsKeepOrders =
    (c : Config) (v : View) (ticket : ℕ) (store : Store) (place : Place) (page : Span) (ppn : ℕ)
    (flags : PteFlags) →
    AreKept 0 v.orders (noted c (Map place page ppn flags) ticket v store).orders
    × AreKept 1 v.orders (noted c (Unmap place page) ticket v store).orders
    × AreKept 1 v.orders (noted c (Protect place page flags) ticket v store).orders

-- the kernel is in the address spaces of all ASIDs, and a space in that of its own alone
abbrev pub KernelIsInEverySpace : Type 0
KernelIsInEverySpace =
    (c : Config) (asid : ℕ) → IsAsidFor c Kernel asid
    × ((s : ℕ) → IsAsidFor c (Space s) asid ↔ (asid ≡ asid_of_space c s))

-- an entry that is for some address space of the place: a global one, one of the space's own ASID,
-- or for the kernel any
abbrev pub IsFor : Config → Place → Entry → Type 0
IsFor c (Space s) e = (e.global ≡ true) ⊎ (e.asid ≡ asid_of_space c s)
IsFor c Kernel e = Unit {0}

-- where a hart's entries translate no address of a page of a place, none of them overlaps the page
-- that is for the place
abbrev pub TranslatesNoneHoldsNone : Type 0
TranslatesNoneHoldsNone =
    (c : Config) (views : List View) (hart : ℕ) (place : Place) (page : Span)
    → TranslatesNone c views hart place page
    → (j : ℕ) (w : View) → get_elem? views j ≡ some w → w.hart ≡ hart → (e : Entry)
    → Contains w.entries e → IsPage e.page → IsFor c place e → ¬ Overlap page e.page

-- the cells lie behind the words of the tables, and no two senders, tickets or receivers share one
abbrev pub CellsAreApart : Type 0
CellsAreApart =
    (l : Layout) (sender ticket receiver : ℕ) → sender < length l.spares → ticket < MAX_TICKETS
    → receiver < length l.spares
    → (size l ≤ cell l sender ticket receiver) × (cell l sender ticket receiver < board_size l)
    × ((other number to : ℕ) → other < length l.spares → number < MAX_TICKETS → to < length l.spares
    → cell l sender ticket receiver ≡ cell l other number to
    → (sender ≡ other) × (ticket ≡ number) × (receiver ≡ to))

-- the cell of the last step on one
abbrev pub last_cell : List CellStep → Option ℕ
last_cell [] = None
last_cell (Found at word ∷ steps) = Some at
last_cell (Stored at word ∷ steps) = Some at

-- the cell that a sender arms for a receiver, that to which the receiver stores, and that at which
-- the sender looks, are one; what the receiver stores is the word of what it dropped, which is not
-- the armed one
abbrev pub CellsMeet : Type 0
CellsMeet =
    (sender receiver : View) (ticket word : ℕ) (what : What) (is_found : Bool)
    → receiver.config ≡ sender.config →
    (last_cell (with_armed ticket receiver.hart sender).cell_steps
    ≡ last_cell (looked ticket receiver.hart is_found word sender).cell_steps)
    × (last_cell (acknowledged sender.hart ticket what receiver).cell_steps
    ≡ last_cell (looked ticket receiver.hart is_found word sender).cell_steps)
    × (last_word (with_armed ticket receiver.hart sender).cell_steps ≡ 0)
    × (last_word (acknowledged sender.hart ticket what receiver).cell_steps ≡ acknowledgement what)
    × (acknowledgement what ≢ 0)
    × (last_word (looked ticket receiver.hart is_found word sender).cell_steps ≡ word)

-- A walk of an address that is not canonical answers a page fault, and leaves the view as it was.
abbrev pub WrongAddressChangesNothing : Type 0
WrongAddressChangesNothing =
    (l : Layout) (v w : View) (root va : ℕ) (access : Access) (ctx : Ctx)
    (answer : Result FoundOf Trap) → ¬ IsCanonical l.scheme va
    → Walked l v root va access ctx answer w
    → (answer ≡ Err (page_trap access NotCanonical)) × (w ≡ v)

-- In each memory that has the words that a walk's loads found, and some state of the board with the
-- hart's view has them, the walk's answer is the one that is computed by one load a level. It took
-- at most as many loads as there are levels, and left the orders, the words and the holders, the
-- count of stores, the next hart to be dealt a seat, and the steps on cells.
abbrev pub WalkAnswersAsComputed : Type 0
WalkAnswersAsComputed =
    (l : Layout) (v w : View) (root va : ℕ) (access : Access) (ctx : Ctx)
    (answer : Result FoundOf Trap) → IsCanonical l.scheme va
    → AnswersByLoads l v root va access ctx answer w
    → HasReads w
    × ((words : Tables) → Has words w.reads
    → answer ≡ answer_after (level_count l.scheme) words (start_of l.scheme root va access ctx))
    × (w.loads ≤ v.loads + level_count l.scheme) × (w.orders ≡ v.orders) × (w.words ≡ v.words)
    × (w.holders ≡ v.holders) × (w.stores ≡ v.stores) × (w.versions ≡ v.versions)
    × (w.next ≡ v.next)
    × (w.cell_steps ≡ v.cell_steps)

-- The store of an edit is counted, and the words after it stand before those of earlier times. No
-- other step counts one, or changes what is known of the words at any time.
abbrev pub EachEditIsOneStore : Type 0
EachEditIsOneStore =
    (c : Config) (wish : Wish) (ticket : ℕ) (v : View) (store : Store)
    → ((noted c wish ticket v store).stores ≡ v.stores + 1)
    × ((noted c wish ticket v store).versions
    ≡ (noted c wish ticket v store).words ∷ v.versions)

-- a view has made the stores of another, and knows the same words at each time
abbrev pub HasStoresOf : View → View → Type 0
HasStoresOf w v = (w.stores ≡ v.stores) × (w.versions ≡ v.versions) × (w.words ≡ v.words)

abbrev pub OnlyEditsStore : Type 0
OnlyEditsStore =
    (v : View) (ticket hart word : ℕ) (what : What) (is_found : Bool) (root : ℕ) (st : Stage)
    (reads : List Read) →
    HasStoresOf (with_armed ticket hart v) v × HasStoresOf (acknowledged hart ticket what v) v
    × HasStoresOf (looked ticket hart is_found word v) v × HasStoresOf (self_acked ticket what v) v
    × HasStoresOf (walked v root st reads word) v × HasStoresOf (ordered ticket what v) v

-- where the hart stored nothing since an order began, its words since then are those of now
abbrev pub NothingStoredSince : Type 0
NothingStoredSince =
    (c : Config) (s : State ℕ View) → Board c s → (i : ℕ) (v : View) → get_elem? s.views i ≡ some v
    → (order : Order) → order.since ≡ v.stores → (words : List ℕ)
    → IsSince v order words ↔ (words ≡ v.words)

-- an order has begun under its ticket, with no cell armed and no hart collected, once the hart had
-- made this many stores
abbrev pub HasBegun : View → ℕ → Cause → ℕ → Type 0
HasBegun v ticket cause stores =
    (order : Order) × (order_of_ticket ticket v.orders ≡ Some order) × (order.cause ≡ cause)
    × (order.since ≡ stores) × (order.armed ≡ []) × (order.collected ≡ [])

-- that of an unmapping and of a protect with its store, and that of a flush with what was stored
-- before it
abbrev pub OrdersBegin : Type 0
OrdersBegin =
    (c : Config) (place : Place) (page : Span) (flags : PteFlags) (ticket : ℕ) (what : What)
    (v : View) (store : Store) →
    HasBegun (noted c (Unmap place page) ticket v store) ticket (Unmapped place page) (v.stores + 1)
    × HasBegun (noted c (Protect place page flags) ticket v store) ticket
    (Other (dropping c place page)) (v.stores + 1)
    × HasBegun (ordered ticket what v) ticket (Other what) v.stores

-- a walk from the root of any space at home, outside the window, reads back what the home stored
abbrev pub EachSpaceAtHomeIsReadBack : Type 0
EachSpaceAtHomeIsReadBack =
    (l : Layout) (v w : View) (s va : ℕ) (access : Access) (ctx : Ctx) (answer : Result FoundOf Trap)
    → s < length l.homes → slice_index l.homes s ≡ v.hart
    → vpn_of va (top_level l.scheme) < first_window_slot l
    → AnswersByLoads l v (root_ppn l s) va access ctx answer w
    → Outcome l.scheme (memory_words (memory_of l v)) (root_ppn l s) va access ctx answer
