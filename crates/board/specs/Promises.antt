-- What a sender may rely on once an unmapping's ticket is done.
use Rattle.std.specs.Prelude.{ℕ, ◌≡◌, ◌+◌, Bool, Some, Ok, Contains, List, [], true}
use mathlib.Core.Option.{some}
use lib.ListN.{get_elem?}
use Rattle.atomic_table.specs.Table.{State}
use Rattle.pte.specs.Address.{Holds, IsPage, Overlap, Span}
use Rattle.pte.specs.declared.flags.PteFlags.{PteFlags}
use Rattle.tlb.specs.declared.store.Entry.{Entry}
use Rattle.tlb.specs.Mappings.{IsMappedBy, Translates}
use Rattle.tlb.specs.Service.{is_dropped}
use Rattle.shoot.specs.HartSet.{contains, harts_in}
use Rattle.shoot.specs.Request.{Request}
use Rattle.shoot.specs.Tickets.{is_open, names}
use Rattle.spaces.specs.declared.configuration.Config.{Config}
use Rattle.spaces.specs.declared.places.Place.{Place}
use Rattle.spaces.specs.declared.wishes.Wish.TheVariants.{Protect, Unmap}
use Rattle.spaces.specs.Layout.{layout_of}
use Rattle.history.specs.Setup.{setup_of}
use Rattle.history.specs.Orders.{scope_request}
use Rattle.history.specs.declared.event.Scope.{Scope}
use Rattle.views.specs.declared.view.Order.{Order}
use Rattle.views.specs.declared.view.View.{View}
use Rattle.views.specs.Board.{Board}
use Rattle.views.specs.Rule.{tables_in}
use Rattle.views.specs.declared.view.Cause.TheVariants.{Other}
use Rattle.views.specs.Orders.{IsAsidFor, IsFrom, IsLive, IsMapped, IsSince, IsUnmapped, asked, dropping, is_in}
use Rattle.views.specs.OrderTurns.{order_of_ticket}
use Rattle.views.specs.Lasting.{HasBegun, IsFor}
use Rattle.board.specs.Ports.{PortState}
use Rattle.views.specs.OnBoard.{IsWithin}
use Rattle.board.specs.Answers.{after_ack_self, after_flush, after_post, after_serve, flush_answer}
use Rattle.board.specs.Collects.{IsCollected}
use Rattle.board.specs.Tables.{after_edit, edit_answer, page_request}

-- the entries translate no address of the page in any address space of the place
abbrev pub TranslateNone : Config → List Entry → Place → Span → Type 0
TranslateNone c entries place page =
    (asid va : ℕ) → IsAsidFor c place asid → Holds page va
    → ¬ Translates (IsMappedBy entries) asid va

-- no view of the hart, and no TLB that lies within one, translates an address of the page in an
-- address space of the place
abbrev pub HoldsNone : Config → State ℕ View → ℕ → Place → Span → Type 0
HoldsNone c state hart place page =
    (j : ℕ) (w : View) → get_elem? state.views j ≡ some w → w.hart ≡ hart → (tlb : List Entry)
    → IsWithin tlb w.entries → TranslateNone c tlb place page

-- in this state of the board the shared words map nothing in the page from a root of the place, and
-- none of these harts holds a mapping of it
pub record IsGone (c : Config) (state : State ℕ View) (harts : ℕ → Bool) (place : Place)
    (page : Span) : Type 0 where
  pub unmapped : IsUnmapped (layout_of c) (tables_in (layout_of c) state.words) place page
  pub dropped : (hart : ℕ) → harts hart ≡ true → HoldsNone c state hart place page

-- a state of the board that keeps the rule, in which the port's view is that of its hart's seat
pub record HasView (port : PortState) (state : State ℕ View) : Type 0 where
  pub config : setup_of port.view.config ≡ port.setup
  pub stands : Board port.view.config state
  pub at : get_elem? state.views port.hart ≡ some port.view

-- of what an order asks to drop, no view of the hart, and no TLB that lies within one, holds from
-- the sender anything but what the sender's words mapped since the order began
abbrev pub HoldsOnlySince : Config → State ℕ View → ℕ → View → Order → Type 0
HoldsOnlySince c state hart v order =
    (j : ℕ) (w : View) → get_elem? state.views j ≡ some w → w.hart ≡ hart → (tlb : List Entry)
    → IsWithin tlb w.entries → (e : Entry) → Contains tlb e
    → is_dropped (asked c order.cause) e ≡ true → IsFrom c v.hart e
    → (words : List ℕ) × IsSince v order words × IsMapped c (tables_in (layout_of c) words) e

-- There is such a state. In each, of the open order of the ticket, each hart that the ticket names
-- holds only what was mapped since; and if it follows an unmapping that is not marked anew, the page
-- is gone from the shared words and from each of these harts.
pub record IsDoneClean (port : PortState) (ticket : ℕ) : Type 0 where
  pub now : State ℕ View
  pub has_view : HasView port now
  pub named : (state : State ℕ View) → HasView port state → (order : Order)
      → order_of_ticket ticket port.view.orders ≡ Some order → (place : Place) (page : Span)
      → IsLive order place page
      → IsGone port.view.config state (names port.tickets ticket) place page
  pub since : (state : State ℕ View) → HasView port state → (order : Order)
      → order_of_ticket ticket port.view.orders ≡ Some order → (hart : ℕ)
      → names port.tickets ticket hart ≡ true
      → HoldsOnlySince port.view.config state hart port.view order

-- There is such a state. In each, of every order of the port's view, open or finished, each hart
-- that was collected for it holds only what was mapped since; and if it follows an unmapping and is
-- not marked anew, the page is gone from the shared words and from each of these harts.
pub record StaysClean (port : PortState) : Type 0 where
  pub now : State ℕ View
  pub has_view : HasView port now
  pub collected : (state : State ℕ View) → HasView port state → (n : ℕ) (order : Order)
      → get_elem? port.view.orders n ≡ some order → (place : Place) (page : Span)
      → IsLive order place page
      → IsGone port.view.config state (λ hart. is_in hart order.collected) place page
  pub since : (state : State ℕ View) → HasView port state → (n : ℕ) (order : Order)
      → get_elem? port.view.orders n ≡ some order → (hart : ℕ)
      → is_in hart order.collected ≡ true
      → HoldsOnlySince port.view.config state hart port.view order

-- An unmapping that is accepted leaves under its ticket an open order that is live, of that page of
-- that place, with no cell armed and no hart collected. So `IsDoneClean` speaks of it, until the
-- home maps a leaf over the page (law `views::only_a_leaf_over_the_page_marks_anew`).
abbrev pub AcceptedUnmappingIsLive : Type 0
AcceptedUnmappingIsLive =
    (port : PortState) (place : Place) (page : Span) (named ticket : ℕ)
    → edit_answer port (Unmap place page) named ≡ Ok ticket → (order : Order)
    × (order_of_ticket ticket (after_edit port (Unmap place page) named).view.orders ≡ Some order)
    × IsLive order place page × (order.armed ≡ []) × (order.collected ≡ [])

-- An edit of flags that is accepted leaves under its ticket an open order of that page, with no cell
-- armed and no hart collected, which begins with the edit's store; and a flush one of its scope,
-- which begins with what was stored before. So `IsDoneClean` speaks of them, and of the words since.
abbrev pub AcceptedOrdersBegin : Type 0
AcceptedOrdersBegin =
    ((port : PortState) (place : Place) (page : Span) (flags : PteFlags) (named ticket : ℕ)
    → edit_answer port (Protect place page flags) named ≡ Ok ticket
    → HasBegun (after_edit port (Protect place page flags) named).view ticket
    (Other (dropping port.view.config place page)) (port.view.stores + 1))
    × ((port : PortState) (scope : Scope) (named ticket : ℕ)
    → flush_answer port scope named ≡ Ok ticket
    → HasBegun (after_flush port scope named).view ticket
    (Other (scope_request port.setup [] scope)) port.view.stores)

-- the ticket is open, for an unmapping of the page that is not marked anew, and names these harts
pub record IsUnmapping (port : PortState) (ticket : ℕ) (place : Place) (page : Span)
    (named : ℕ) : Type 0 where
  pub is_open : is_open port.tickets ticket ≡ true
  pub order : Order
  pub is : order_of_ticket ticket port.view.orders ≡ Some order
  pub live : IsLive order place page
  pub names_are : (hart : ℕ) → names port.tickets ticket hart ≡ contains (harts_in named) hart

-- an unmapping that is accepted opens such a ticket
abbrev pub UnmappingOpens : Type 0
UnmappingOpens =
    (port : PortState) (place : Place) (page : Span) (named ticket : ℕ)
    → edit_answer port (Unmap place page) named ≡ Ok ticket
    → IsUnmapping (after_edit port (Unmap place page) named) ticket place page named

-- There is a state of the board with the port's view, and in each the page is gone from the shared
-- words and from each of these harts, by the bits of a byte.
pub record IsUnmappedFrom (port : PortState) (named : ℕ) (place : Place) (page : Span) : Type 0 where
  pub now : State ℕ View
  pub has_view : HasView port now
  pub gone : (state : State ℕ View) → HasView port state
      → IsGone port.view.config state (contains (harts_in named)) place page

-- so it is once such a ticket is done, of the harts that were named
abbrev pub DoneUnmappingIsGone : Type 0
DoneUnmappingIsGone =
    (port : PortState) (ticket : ℕ) (place : Place) (page : Span) (named : ℕ)
    → IsUnmapping port ticket place page named → IsDoneClean port ticket
    → IsUnmappedFrom port named place page

-- Where a home has unmapped a page, and another port of its board serves a request for what that
-- asks, this port's own TLB translates no address of the page then.
abbrev pub ServingDropsThePage : Type 0
ServingDropsThePage =
    (home other : PortState) (ticket : ℕ) (place : Place) (page : Span) (named from : ℕ)
    (request : Request) (known : List Request)
    → IsUnmapping home ticket place page named
    → (now : State ℕ View) → HasView home now → (before : State ℕ View) → HasView other before
    → other.setup ≡ home.setup → IsWithin other.tlb.entries other.view.entries
    → request.what ≡ page_request home.setup (Unmap place page)
    → TranslateNone home.view.config (after_serve other from request known).tlb.entries place page

-- which it stays once it is posted, once the own hart has acknowledged it, and once those of others
-- were looked for
abbrev pub CallsKeepUnmapping : Type 0
CallsKeepUnmapping =
    (port after : PortState) (ticket to room : ℕ) (place : Place) (page : Span) (named : ℕ)
    → IsUnmapping port ticket place page named →
    IsUnmapping (after_post port ticket to room) ticket place page named
    × IsUnmapping (after_ack_self port ticket) ticket place page named
    × (IsCollected port ticket port.setup.harts after → IsUnmapping after ticket place page named)

-- where no address of a page of a place is translated, no entry overlaps the page that is for the
-- place
abbrev pub TranslateNoneHoldsNone : Type 0
TranslateNoneHoldsNone =
    (c : Config) (entries : List Entry) (place : Place) (page : Span)
    → TranslateNone c entries place page
    → (e : Entry) → Contains entries e → IsPage e.page → IsFor c place e → ¬ Overlap page e.page
