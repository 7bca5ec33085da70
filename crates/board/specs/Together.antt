-- The ports of one board in one state, and what the answer of one says of the TLBs of all.
use Rattle.std.specs.Prelude.{ℕ, ◌≡◌, List, All, Contains, Some, true}
use mathlib.Core.Option.{some}
use lib.ListN.{get_elem?}
use Rattle.atomic_table.specs.Table.{State}
use Rattle.pte.specs.Address.{Span}
use Rattle.tlb.specs.declared.store.Entry.{Entry}
use Rattle.tlb.specs.Service.{is_dropped}
use Rattle.shoot.specs.Tickets.{names}
use Rattle.spaces.specs.declared.places.Place.{Place}
use Rattle.spaces.specs.Layout.{layout_of}
use Rattle.history.specs.Setup.{setup_of}
use Rattle.views.specs.declared.view.Order.{Order}
use Rattle.views.specs.declared.view.View.{View}
use Rattle.views.specs.Rule.{tables_in}
use Rattle.views.specs.Orders.{IsFrom, IsLive, IsMapped, IsSince, asked, is_in}
use Rattle.views.specs.OrderTurns.{order_of_ticket}
use Rattle.views.specs.OnBoard.{IsWithin}
use Rattle.board.specs.Ports.{PortState}
use Rattle.board.specs.Promises.{HasView, IsDoneClean, TranslateNone}

-- the port's view is of its own board and hart, and has each entry of its TLB
pub record KnowsItself (port : PortState) : Type 0 where
  pub config : setup_of port.view.config ≡ port.setup
  pub hart : port.view.hart ≡ port.hart
  pub within : IsWithin port.tlb.entries port.view.entries

-- there is one state of the board that keeps the rule, in which the view of each of the ports is
-- that of its hart's seat; and each view has what is in its port's TLB
pub record ShareAState (ports : List PortState) : Type 0 where
  pub state : State ℕ View
  pub have_views : All (λ port. HasView port state) ports
  pub within : All (λ port. IsWithin port.tlb.entries port.view.entries) ports

-- Where ports share a state, and one of them was answered Done for an unmapping that is not marked
-- anew, no TLB of a port whose hart the ticket names translates an address of the page.
abbrev pub DoneIsGoneFromTlbs : Type 0
DoneIsGoneFromTlbs =
    (ports : List PortState) → ShareAState ports
    → (port other : PortState) → Contains ports port → Contains ports other
    → (ticket : ℕ) → IsDoneClean port ticket → names port.tickets ticket other.hart ≡ true
    → (order : Order) → order_of_ticket ticket port.view.orders ≡ Some order
    → (place : Place) (page : Span) → IsLive order place page
    → TranslateNone port.view.config other.tlb.entries place page

-- so it is of every unmapping of a port that is not marked anew, also when its ticket is finished or
-- used again, and of each hart that was collected for it
abbrev pub CollectedIsGoneFromTlbs : Type 0
CollectedIsGoneFromTlbs =
    (ports : List PortState) → ShareAState ports
    → (port other : PortState) → Contains ports port → Contains ports other
    → (n : ℕ) (order : Order) → get_elem? port.view.orders n ≡ some order
    → is_in other.hart order.collected ≡ true
    → (place : Place) (page : Span) → IsLive order place page
    → TranslateNone port.view.config other.tlb.entries place page

-- And of what any order asks to drop, the TLB of a port whose hart was collected for it holds from
-- the order's sender only what the sender's words mapped since the order began.
abbrev pub CollectedTlbsHoldOnlySince : Type 0
CollectedTlbsHoldOnlySince =
    (ports : List PortState) → ShareAState ports
    → (port other : PortState) → Contains ports port → Contains ports other
    → (n : ℕ) (order : Order) → get_elem? port.view.orders n ≡ some order
    → is_in other.hart order.collected ≡ true
    → (e : Entry) → Contains other.tlb.entries e
    → is_dropped (asked port.view.config order.cause) e ≡ true
    → IsFrom port.view.config port.view.hart e
    → (words : List ℕ) × IsSince port.view order words
    × IsMapped port.view.config (tables_in (layout_of port.view.config) words) e
