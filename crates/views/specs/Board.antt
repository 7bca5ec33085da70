-- The board's rule, between any two atomic steps, and what one step owes.
use Rattle.std.specs.Prelude.{◌≡◌, ◌⊎◌, ◌↔◌, ℕ, ◌^◌, ◌*◌, ◌%◌, ◌<◌, ◌≤◌, Bool, IsTrue, Ok, Some, None, List, slice_index, slice_set, length, true}
use mathlib.Core.Option.{some}
use lib.ListN.{get_elem?}
use Rattle.atomic_table.specs.Table.{State}
use Rattle.pte.specs.declared.address.What.{What}
use Rattle.pte.specs.declared.flags.PteFlags.{PteFlags}
use Rattle.pte.specs.declared.entry.Kind.TheVariants.{Leaf}
use Rattle.pte.specs.declared.address.PageSize.TheVariants.{Kib4}
use Rattle.pte.specs.Address.{Holds, IsCanonical, IsPage, Span, bytes_of, level_pages, top_level, vpn_of}
use Rattle.pte.specs.Entry.{kind_of}
use Rattle.walk.specs.Leads.{Leads, Tables}
use Rattle.walk.specs.Maps.{Maps}
use Rattle.spaces.specs.declared.configuration.Config.{Config}
use Rattle.spaces.specs.declared.places.Place.{Place}
use Rattle.spaces.specs.Effects.{HangsBelow}
use Rattle.spaces.specs.Layout.{HasPlace, Layout, first_window_slot, layout_of, root_ppn}
use Rattle.spaces.specs.declared.wishes.Wish.{Wish}
use Rattle.spaces.specs.Edits.{Store, place_of}
use Rattle.walk.specs.Pointers.{pointed}
use Rattle.views.specs.Edits.{edit_over}
use Rattle.spaces.specs.Opening.{opening}
use Rattle.spaces.specs.Held.{IsLayout, memory_words}
use Rattle.spaces.specs.Holders.{Holders}
use Rattle.spaces.specs.Tree.{IsTree}
use Rattle.tlb.specs.declared.store.Entry.{Entry}
use Rattle.tlb.specs.Mappings.{IsMappedBy, Mapping, Translates}
use Rattle.tlb.specs.Service.{after_service}
use Rattle.shoot.specs.Acknowledgement.{IsAskable, acknowledgement}
use Rattle.views.specs.declared.view.Order.{Order}
use Rattle.views.specs.declared.view.View.{View}
use Rattle.views.specs.Rule.{cell, memory_of, tables_in, Tabled}
use Rattle.views.specs.Orders.{asked, dropping, HoldsSince, IsAsidFor, IsLive, IsUnmapped, is_in, Ordered}

pub record Board (c : Config) (s : State ℕ View) : Type 0 where
  pub tables : Tabled c s
  pub orders : Ordered c s

-- whatever the board is when the word i becomes f of what it was, the seat's view after keeps the
-- rule, and `tells` holds of the word i before the step
abbrev pub Steps : Config → ℕ → View → ℕ → (ℕ → ℕ) → (ℕ → View) → (ℕ → Type 0) → Type 0
Steps c id v i f after tells =
    (s : State ℕ View) → Board c s → get_elem? s.views id ≡ some v → slice_index s.words i < 2 ^ 64
    → Board c record {
      words = slice_set s.words i (f (slice_index s.words i));
      homes = s.homes;
      views = slice_set s.views id (after (slice_index s.words i));
    } × tells (slice_index s.words i)

-- while an unmapping in a view is not marked anew, nothing that these words map lies in its page
abbrev pub UnmappedStaysUnmapped : (Config → State ℕ View → View → Tables) → Type 0
UnmappedStaysUnmapped words_at =
    (c : Config) (s : State ℕ View) → Board c s → (i : ℕ) (v : View) → get_elem? s.views i ≡ some v
    → (n : ℕ) (order : Order)
    → get_elem? v.orders n ≡ some order → (place : Place) (page : Span) → IsLive order place page
    → IsUnmapped (layout_of c) (words_at c s v) place page

-- the words as the home's view has them, and the shared words
abbrev pub own_words : Config → State ℕ View → View → Tables
own_words c s v = memory_words (memory_of (layout_of c) v)

abbrev pub shared_words : Config → State ℕ View → View → Tables
shared_words c s v = tables_in (layout_of c) s.words

-- no leaf leads at an address of the page, from the root of a space that the place's tables hang
-- below
abbrev pub NoLeafLeads : Layout → Tables → Place → Span → Type 0
NoLeafLeads l words place page =
    (s va level table entry leaf : ℕ) (flags : PteFlags) → s < length l.homes → HangsBelow place s
    → Holds page va → IsCanonical l.scheme va
    → Leads l.scheme words (root_ppn l s) va level table (Some entry)
    → kind_of entry ≡ Leaf leaf flags → ⊥

-- which is what it means that nothing in the page is mapped, where the words are a tree
abbrev pub UnmappedIsWhereNoLeafLeads : Type 0
UnmappedIsWhereNoLeafLeads =
    (l : Layout) (words : Tables) (holders : Holders) → IsLayout l → IsTree l words holders
    → (place : Place) (page : Span) → IsPage page
    → IsUnmapped l words place page ↔ NoLeafLeads l words place page

-- so it is of these words of a board
abbrev pub UnmappedOnBoardIsWhereNoLeafLeads : (Config → State ℕ View → View → Tables) → Type 0
UnmappedOnBoardIsWhereNoLeafLeads words_at =
    (c : Config) (s : State ℕ View) → Board c s → (i : ℕ) (v : View) → get_elem? s.views i ≡ some v
    → (place : Place) (page : Span) → IsPage page
    → IsUnmapped (layout_of c) (words_at c s v) place page
    ↔ NoLeafLeads (layout_of c) (words_at c s v) place page

-- each leaf that leads from the root of a space in the shared words is aligned: its PPN is a multiple
-- of the size of its page, in pages of 4 KiB
abbrev pub LeavesAreAligned : Type 0
LeavesAreAligned =
    (c : Config) (s : State ℕ View) → Board c s
    → (space va level table entry leaf : ℕ) (flags : PteFlags) → space < length (layout_of c).homes
    → Leads c.scheme (tables_in (layout_of c) s.words) (root_ppn (layout_of c) space) va level table
    (Some entry)
    → kind_of entry ≡ Leaf leaf flags → leaf % level_pages level ≡ 0

-- the entries of the hart translate no address of the page of a place
abbrev pub TranslatesNone : Config → List View → ℕ → Place → Span → Type 0
TranslatesNone c views hart place page =
    (j : ℕ) (w : View) → get_elem? views j ≡ some w → w.hart ≡ hart → (asid va : ℕ)
    → IsAsidFor c place asid → Holds page va → ¬ Translates (IsMappedBy w.entries) asid va

-- Once a cell that was armed for an order has the word of what it asks to drop, the receiver holds of
-- that, from places at home on the sender, only what the sender's words mapped since the order
-- began. An acknowledgement of an older order, whatever that was, would break this.
abbrev pub AcknowledgedHoldsSince : Type 0
AcknowledgedHoldsSince =
    (c : Config) (s : State ℕ View) → Board c s → (i : ℕ) (v : View) → get_elem? s.views i ≡ some v
    → (n : ℕ) (order : Order) → get_elem? v.orders n ≡ some order → (receiver : ℕ)
    → receiver < length (layout_of c).spares → is_in receiver order.armed ≡ true
    → slice_index s.words (cell (layout_of c) v.hart order.ticket receiver)
    ≡ acknowledgement (asked c order.cause) → HoldsSince c s.views receiver v order

-- so it is once the hart was collected, also when the ticket is used again
abbrev pub CollectedHoldsSince : Type 0
CollectedHoldsSince =
    (c : Config) (s : State ℕ View) → Board c s → (i : ℕ) (v : View) → get_elem? s.views i ≡ some v
    → (n : ℕ) (order : Order) → get_elem? v.orders n ≡ some order → (hart : ℕ)
    → hart < length (layout_of c).spares → is_in hart order.collected ≡ true
    → HoldsSince c s.views hart v order

-- once a cell that was armed for an unmapping has the word of what it asks, the receiver translates
-- no address of the page, until it is mapped anew
abbrev pub AcknowledgedIsClean : Type 0
AcknowledgedIsClean =
    (c : Config) (s : State ℕ View) → Board c s → (i : ℕ) (v : View) → get_elem? s.views i ≡ some v
    → (n : ℕ) (order : Order) → get_elem? v.orders n ≡ some order
    → (place : Place) (page : Span) → IsLive order place page → (receiver : ℕ)
    → receiver < length (layout_of c).spares → is_in receiver order.armed ≡ true
    → slice_index s.words (cell (layout_of c) v.hart order.ticket receiver)
    ≡ acknowledgement (dropping c place page) → TranslatesNone c s.views receiver place page

-- so it is once the hart was collected, also when the ticket is used again
abbrev pub CollectedIsClean : Type 0
CollectedIsClean =
    (c : Config) (s : State ℕ View) → Board c s → (i : ℕ) (v : View) → get_elem? s.views i ≡ some v
    → (n : ℕ) (order : Order) → get_elem? v.orders n ≡ some order
    → (place : Place) (page : Span) → IsLive order place page → (hart : ℕ)
    → hart < length (layout_of c).spares → is_in hart order.collected ≡ true
    → TranslatesNone c s.views hart place page

-- what the shared words map from a root is global exactly in the window
abbrev pub LeavesAreGlobalInWindow : Type 0
LeavesAreGlobalInWindow =
    (c : Config) (s : State ℕ View) → Board c s
    → (space number ppn : ℕ) (flags : PteFlags) (global : Bool) → space < length (layout_of c).homes
    → Maps c.scheme (tables_in (layout_of c) s.words)
    (root_ppn (layout_of c) space) number ppn flags global
    → IsTrue global ↔ (first_window_slot (layout_of c) ≤ vpn_of (number * bytes_of Kib4)
    (top_level c.scheme))

-- and so is what a hart filled: it is for every address space exactly in the window
abbrev pub MappingsAreGlobalInWindow : Type 0
MappingsAreGlobalInWindow =
    (c : Config) (s : State ℕ View) → Board c s → (j : ℕ) (v : View) → get_elem? s.views j ≡ some v
    → (m : Mapping) → IsMappedBy v.entries m
    → (m.asid ≡ None) ↔ (first_window_slot (layout_of c) ≤ vpn_of (m.page * bytes_of Kib4)
    (top_level c.scheme))

-- requests with one word ask for one service
abbrev pub EqualWordsAskForEqualService : Type 0
EqualWordsAskForEqualService =
    (a d : What) → IsAskable a → IsAskable d → acknowledgement a ≡ acknowledgement d
    → (entries : List Entry) → after_service entries a ≡ after_service entries d

-- a word of a frame is as the view of this hart says, or as at the opening where no view is this
-- hart's
abbrev pub IsAsSaid : Config → State ℕ View → ℕ → ℕ → ℕ → Type 0
IsAsSaid c s hart f i =
    ((j : ℕ) × (v : View) × (get_elem? s.views j ≡ some v) × (v.hart ≡ hart)
    × (tables_in (layout_of c) s.words f i ≡ memory_words (memory_of (layout_of c) v) f i))
    ⊎ (((j : ℕ) (v : View) → get_elem? s.views j ≡ some v → ¬ (v.hart ≡ hart))
    × (tables_in (layout_of c) s.words f i ≡ opening (layout_of c) f i))

-- the store of an edit that is due at home overwrites no pointer, so a walk in flight stays where the
-- tables lead
abbrev pub StoresOverwriteNoPointer : Type 0
StoresOverwriteNoPointer =
    (c : Config) (s : State ℕ View) → Board c s → (i : ℕ) (v : View) → get_elem? s.views i ≡ some v
    → (wish : Wish) (store : Store) → HasPlace (layout_of c) (place_of wish)
    → edit_over (layout_of c) v wish ≡ Ok store
    → pointed (tables_in (layout_of c) s.words store.ppn store.index) ≡ None

-- the seat of a hart has the hart's number, so no two harts have one seat, and none has two
abbrev pub SeatsAreNumbered : Type 0
SeatsAreNumbered =
    (c : Config) (s : State ℕ View) → Board c s → (i : ℕ) (v : View) → get_elem? s.views i ≡ some v
    → v.hart ≡ i
