-- What the board keeps of orders: what an unmapping's home still doesn't map, and which harts hold
-- nothing of it.
use Rattle.std.specs.Prelude.{◌≡◌, ℕ, ◌+◌, ◌<◌, ◌≤◌, ◌==◌, ◌&&◌, ◌↔◌, Bool, true, false, IsTrue, Contains, List, All, length, map, slice_index, Option, Some, None}
use Rattle.std.specs.List.{list_any}
use mathlib.Core.Option.{some}
use lib.ListN.{get_elem?}
use Rattle.atomic_table.specs.Table.{State}
use Rattle.pte.specs.declared.flags.PteFlags.{PteFlags}
use Rattle.pte.specs.declared.address.What.{What}
use Rattle.pte.specs.declared.address.What.TheVariants.{PageOf}
use Rattle.pte.specs.Address.{Span, Holds, top_level, vpn_of}
use Rattle.walk.specs.Leads.{Tables}
use Rattle.walk.specs.Maps.{Maps}
use Rattle.spaces.specs.declared.configuration.Config.{Config}
use Rattle.spaces.specs.declared.places.Place.{Place}
use Rattle.spaces.specs.declared.places.Place.TheVariants.{Space, Kernel}
use Rattle.spaces.specs.Layout.{Layout, HasPlace, home_of, layout_of, root_ppn, first_window_slot}
use Rattle.spaces.specs.Holders.{is_same_place}
use Rattle.spaces.specs.Edits.{is_wrong_half}
use Rattle.spaces.specs.Effects.{IsAbout}
use Rattle.tlb.specs.declared.store.Entry.{Entry}
use Rattle.tlb.specs.Mappings.{IsMappingOf, Mapping}
use Rattle.tlb.specs.Service.{is_dropped, overlaps}
use Rattle.shoot.specs.Acknowledgement.{IsAskable, acknowledgement}
use Rattle.views.specs.declared.view.Cause.{Cause}
use Rattle.views.specs.declared.view.Cause.TheVariants.{Unmapped, Other}
use Rattle.views.specs.declared.view.Order.{Order}
use Rattle.views.specs.declared.view.View.{View}
use Rattle.views.specs.Rule.{cell, tables_in}
use Rattle.shoot.specs.declared.TheConstants.{MAX_TICKETS}

abbrev pub asid_of_space : Config → ℕ → ℕ
asid_of_space c s = slice_index (map (λ s. s.asid) c.spaces.items) s

-- the ASID of a place; the kernel is in every address space
abbrev pub asid_for : Config → Place → Option ℕ
asid_for c (Space s) = Some (asid_of_space c s)
asid_for c Kernel = None

-- an ASID of the address spaces that the place is in
abbrev pub IsAsidFor : Config → Place → ℕ → Type 0
IsAsidFor c (Space s) asid = asid ≡ asid_of_space c s
IsAsidFor c Kernel asid = Unit {0}

-- what the harts are asked to drop of a page of a place
abbrev pub dropping : Config → Place → Span → What
dropping c place page = PageOf page (asid_for c place)

-- what an order asks the harts to drop
abbrev pub asked : Config → Cause → What
asked c (Unmapped place page) = dropping c place page
asked c (Other what) = what

abbrev pub is_in : ℕ → List ℕ → Bool
is_in hart harts = list_any (λ x. x == hart) harts

-- an unmapping that is not marked anew
abbrev pub IsLive : Order → Place → Span → Type 0
IsLive order place page = (order.cause ≡ Unmapped place page) × (order.anew ≡ false)

-- a leaf that is mapped here lies over the page of an unmapping
abbrev pub lies_over : Cause → Place → Span → Bool
lies_over (Unmapped place page) other span = is_same_place place other && overlaps page span
lies_over (Other what) other span = false

-- nothing that the words map from a root of the place lies in the page
abbrev pub IsUnmapped : Layout → Tables → Place → Span → Type 0
IsUnmapped l words place page =
    (s number ppn : ℕ) (flags : PteFlags) (global : Bool) → s < length l.homes
    → IsAbout place page s number
    → ¬ Maps l.scheme words (root_ppn l s) number ppn flags global

-- the hart's words at the beginning of an order, or after a store since
abbrev pub IsSince : View → Order → List ℕ → Type 0
IsSince v order words =
    (age : ℕ) × (get_elem? v.versions age ≡ some words) × (age + order.since ≤ v.stores)

-- the entry is of the place: a global one of the kernel, and else one of the space's ASID
abbrev pub IsOf : Config → Place → Entry → Type 0
IsOf c (Space s) e = (e.global ≡ false) × (e.asid ≡ asid_of_space c s)
IsOf c Kernel e = e.global ≡ true

-- and that is at home on the hart
pub record IsFrom (c : Config) (hart : ℕ) (e : Entry) : Type 0 where
  pub place : Place
  pub has : HasPlace (layout_of c) place
  pub at_home : home_of (layout_of c) place ≡ hart
  pub is : IsOf c place e

-- the words map what the entry does, from the root of the space with its ASID
pub record IsMapped (c : Config) (words : Tables) (e : Entry) : Type 0 where
  pub space : ℕ
  pub has : space < length (layout_of c).homes
  pub asid : e.asid ≡ asid_of_space c space
  pub each : (m : Mapping) → IsMappingOf e m
      → Maps c.scheme words (root_ppn (layout_of c) space) m.page m.ppn m.flags e.global

-- of what an order asks to drop, the hart holds from the sender only what the sender's words mapped
-- at the order's beginning or since
abbrev pub HoldsSince : Config → List View → ℕ → View → Order → Type 0
HoldsSince c views hart v order =
    (j : ℕ) (w : View) → get_elem? views j ≡ some w → w.hart ≡ hart → (e : Entry)
    → Contains w.entries e → is_dropped (asked c order.cause) e ≡ true → IsFrom c v.hart e
    → (words : List ℕ) × IsSince v order words × IsMapped c (tables_in (layout_of c) words) e

-- What holds of each order of a view.
pub record Answered (c : Config) (words : List ℕ) (views : List View) (v : View)
    (order : Order) : Type 0 where
  pub begun : order.since ≤ v.stores
  pub askable : IsAskable (asked c order.cause)
  -- cells are armed for tickets of a hart, which are numbered from 0
  pub numbered : (h : ℕ) → is_in h order.armed ≡ true → order.ticket < MAX_TICKETS
  -- once a cell that was armed for it has its word, the receiver dropped what it asks
  pub acked : (h : ℕ) → h < length (layout_of c).spares → is_in h order.armed ≡ true
      → slice_index words (cell (layout_of c) v.hart order.ticket h)
      ≡ acknowledgement (asked c order.cause) → HoldsSince c views h v order
  -- and so did a hart that was collected
  pub gone : (h : ℕ) → h < length (layout_of c).spares → is_in h order.collected ≡ true
      → HoldsSince c views h v order

-- What holds of one that follows an unmapping and is not marked anew: since then the sender's words
-- map nothing in the page.
pub record Kept (c : Config) (v : View) (order : Order) (place : Place) (page : Span) : Type 0 where
  pub has : HasPlace (layout_of c) place
  pub at_home : home_of (layout_of c) place ≡ v.hart
  pub right_half : is_wrong_half (layout_of c) place page ≡ false
  pub unmapped : (words : List ℕ) → IsSince v order words
      → IsUnmapped (layout_of c) (tables_in (layout_of c) words) place page

-- an entry is global exactly in the window: so is each address of its page
abbrev pub IsGlobalInWindow : Layout → Entry → Type 0
IsGlobalInWindow l e =
    (va : ℕ) → Holds e.page va → (IsTrue e.global
    ↔ (first_window_slot l ≤ vpn_of va (top_level l.scheme)))

-- What is kept of orders and of the entries that harts hold.
pub record Ordered (c : Config) (s : State ℕ View) : Type 0 where
  pub window : (j : ℕ) (v : View) → get_elem? s.views j ≡ some v
      → All (IsGlobalInWindow (layout_of c)) v.entries
  pub latest : (j : ℕ) (v : View) → get_elem? s.views j ≡ some v
      → get_elem? v.versions 0 ≡ some v.words
  pub answered : (j : ℕ) (v : View) → get_elem? s.views j ≡ some v → (n : ℕ) (order : Order)
      → get_elem? v.orders n ≡ some order → Answered c s.words s.views v order
  pub kept : (j : ℕ) (v : View) → get_elem? s.views j ≡ some v → (n : ℕ) (order : Order)
      → get_elem? v.orders n ≡ some order → (place : Place) (page : Span) → IsLive order place page
      → Kept c v order place page
