-- Once each named hart is collected, none of their TLBs translates an address of the page.
use Rattle.std.proofs.Common.{◌≡◌, ◌+◌, ap, refl, ℕ, zero, suc, ◌<◌, length, ◌==◌, Bool, true, false, cond, List, [], ◌∷◌, Option, Some, None, Result, Ok, Err, sym, subst}
use Rattle.std.specs.Prelude.{unwrap_or}
use mathlib.Core.Option.{some}
use lib.ListN.{get_elem?}
use Rattle.tlb.specs.declared.store.Entry.{Entry}
use Rattle.tlb.specs.Mappings.{IsMappedBy, Translates}
use Rattle.views.specs.declared.view.Order.{Order}
use Rattle.views.specs.OrderTurns.{fresh, order_of_ticket, ordered}
use Rattle.views.proofs.Collected.{collected_holds_since, collected_is_clean, unmapped_shared}
use Rattle.views.specs.declared.view.View.{View}
use Rattle.views.specs.OnBoard.{IsOnBoard}
use Rattle.spaces.specs.declared.places.Place.{Place}
use Rattle.spaces.specs.Layout.{layout_of}
use Rattle.atomic_table.specs.Table.{State}
use Rattle.pte.specs.Address.{Span}
use Rattle.history.specs.Setup.{setup_of}
use Rattle.views.specs.OnBoard.{IsWithin}
use Rattle.spaces.specs.declared.faults.MapFault.{MapFault}
use Rattle.spaces.specs.declared.wishes.Wish.TheVariants.{Protect, Unmap}
use Rattle.pte.specs.declared.address.What.{What}
use Rattle.pte.specs.declared.flags.PteFlags.{PteFlags}
use Rattle.history.specs.Orders.{scope_request}
use Rattle.spaces.specs.Edits.{Store}
use Rattle.shoot.specs.Tickets.{names, open_answer}
use Rattle.history.specs.declared.refusal.Refusal.{Refusal}
use Rattle.history.specs.Refusal.{refusal_of}
use Rattle.views.specs.declared.view.Cause.TheVariants.{Other}
use Rattle.views.specs.Orders.{IsLive, dropping, is_in}
use Rattle.views.specs.Lasting.{HasBegun}
use Rattle.views.proofs.Lasting.{begins_live, first, none_held}
use Rattle.board.specs.Answers.{after_ordered, answer_or}
use Rattle.board.specs.Tables.{after_opened, after_store, due_store, edit_answer, named_refusal, opened_if}
use Rattle.board.specs.Ports.{PortState}
use Rattle.board.specs.Collects.{AreAllCollected}
use Rattle.board.specs.Promises.{AcceptedOrdersBegin, AcceptedUnmappingIsLive, HasView, HoldsOnlySince, IsDoneClean, IsGone, StaysClean, TranslateNoneHoldsNone}

-- the open order is one of the orders
pub find-order : (ticket : ℕ) (ks : List Order) (k : Order) → order_of_ticket ticket ks ≡ Some k → (n : ℕ) × (get_elem? ks n ≡ some k)
find-order ticket [] k e = absurd (let bad : None ≡ Some k = e in cc)
find-order ticket (x ∷ xs) k e = by (x.ticket == ticket) e (find-order ticket xs k)
  where
    by : (q : Bool) → cond q (Some x) (order_of_ticket ticket xs) ≡ Some k → (order_of_ticket ticket xs ≡ Some k → (n : ℕ) × (get_elem? xs n ≡ some k)) → (n : ℕ) × (get_elem? (x ∷ xs) n ≡ some k)
    by true e rest = (zero, ap (λ (o : Option Order). some (unwrap_or o k)) e)
    by false e rest = let r = rest e in (suc r.0, r.1)

-- what entries translate, more entries do
more-translate : (few many : List Entry) (asid va : ℕ) → IsWithin few many → Translates (IsMappedBy few) asid va → Translates (IsMappedBy many) asid va
more-translate few many asid va within t = record {
  mapping = t.mapping;
  member = (t.member.0, within.each t.member.0 t.member.1, t.member.2);
  space = t.space;
  page = t.page;
}

-- what a live order says in a state of the board with the port's view
pub gone : (port : PortState) (state : State ℕ View) → HasView port state → (n : ℕ) (k : Order) → get_elem? port.view.orders n ≡ some k → (place : Place) (page : Span) → IsLive k place page
    → (harts : ℕ → Bool) → ((h : ℕ) → harts h ≡ true → is_in h k.collected ≡ true) → IsGone port.view.config state harts place page
gone port state has n k at-k place page live harts got = record {
  unmapped = unmapped_shared port.view.config state has.stands port.hart port.view has.at n k at-k place page live;
  dropped = λ h named j w at-w is tlb within asid va of holds t.
      let low = (has.stands.tables.each j w at-w).local.hart in
      collected_is_clean port.view.config state has.stands port.hart port.view has.at n k at-k place page live h (subst (λ x. x < length (layout_of port.view.config).spares) is low) (got h named) j w at-w is asid va of holds
      (more-translate tlb w.entries asid va within t);
}

-- and what each order says in one
pub only-since : (port : PortState) (state : State ℕ View) → HasView port state → (n : ℕ) (k : Order) → get_elem? port.view.orders n ≡ some k → (h : ℕ) → is_in h k.collected ≡ true
    → HoldsOnlySince port.view.config state h port.view k
only-since port state has n k at-k h got j w at-w is tlb within e in-tlb dropped from =
    let low = (has.stands.tables.each j w at-w).local.hart in
    collected_holds_since port.view.config state has.stands port.hart port.view has.at n k at-k h (subst (λ x. x < length (layout_of port.view.config).spares) is low) got j w at-w is e (within.each e in-tlb) dropped from

module _ (port : PortState) (config : setup_of port.view.config ≡ port.setup) (hart : port.view.hart ≡ port.hart) (on : IsOnBoard port.view) where
  has-view : HasView port on.state
  has-view = record { config = config; stands = on.stands; at = subst (λ n. get_elem? on.state.views n ≡ some port.view) hart on.at }

  pub stays_clean : StaysClean port
  stays_clean = record {
    now = on.state;
    has_view = has-view;
    collected = λ state has n k at-k place page live. gone port state has n k at-k place page live (λ h. is_in h k.collected) (λ h got. got);
    since = λ state has n k at-k h got. only-since port state has n k at-k h got;
  }

  pub done_is_clean : (ticket : ℕ) → AreAllCollected port ticket → IsDoneClean port ticket
  done_is_clean ticket all = record {
    now = on.state;
    has_view = has-view;
    named = λ state has k open-order place page live.
        let n = find-order ticket port.view.orders k open-order in
        gone port state has n.0 k n.1 place page live (names port.tickets ticket) (all k open-order);
    since = λ state has k open-order h named.
        let n = find-order ticket port.view.orders k open-order in
        only-since port state has n.0 k n.1 h (all k open-order h named);
  }

-- what is refused opens no ticket
no-ticket : (refusal : Option Refusal) (why : Refusal) (ticket : ℕ) → answer_or refusal (Err why) ≡ Ok ticket → ⊥
no-ticket None why ticket e = cc
no-ticket (Some refusal) why ticket e = cc

pub accepted_unmapping_is_live : AcceptedUnmappingIsLive
accepted_unmapping_is_live port place page named ticket e =
    subst (λ (r : Result ℕ Refusal). (k : Order) × (order_of_ticket ticket (after_opened port (Unmap place page) named r).view.orders ≡ Some k) × IsLive k place page × (k.armed ≡ []) × (k.collected ≡ []))
    (sym e) (by (due_store port (Unmap place page)) refl)
  where
    by : (d : Result Store MapFault) → due_store port (Unmap place page) ≡ d → (k : Order)
        × (order_of_ticket ticket (after_store port (Unmap place page) ticket d).view.orders ≡ Some k) × IsLive k place page × (k.armed ≡ []) × (k.collected ≡ [])
    by (Ok store) is = let b = begins_live port.view.config place page ticket port.view store in (b.0, b.1, b.2, b.3, b.4)
    by (Err fault) is =
        absurd (no-ticket (named_refusal port place named) (refusal_of fault) ticket (
        subst (λ (d : Result Store MapFault). answer_or (named_refusal port place named) (opened_if d (open_answer port.tickets named)) ≡ Ok ticket) is e))

pub accepted_orders_begin : AcceptedOrdersBegin
accepted_orders_begin = (
  (λ port place page flags named ticket e.
      subst (λ (r : Result ℕ Refusal). HasBegun (after_opened port (Protect place page flags) named r).view ticket (Other (dropping port.view.config place page)) (port.view.stores + 1)) (sym e)
      (stored port place page flags named ticket e (due_store port (Protect place page flags)) refl)),
  (λ port scope named ticket e.
      subst (λ (r : Result ℕ Refusal). HasBegun (after_ordered port (scope_request port.setup [] scope) named r).view ticket (Other (scope_request port.setup [] scope)) port.view.stores) (sym e)
      (flushed (scope_request port.setup [] scope) ticket port.view)),
)
  where
    flushed : (what : What) (ticket : ℕ) (v : View) → HasBegun (ordered ticket what v) ticket (Other what) v.stores
    flushed what ticket v = (fresh ticket (Other what) v.stores, first ticket (Other what) v.stores v.orders, refl, refl, refl, refl)

    stored : (port : PortState) (place : Place) (page : Span) (flags : PteFlags) (named ticket : ℕ) → edit_answer port (Protect place page flags) named ≡ Ok ticket → (d : Result Store MapFault)
        → due_store port (Protect place page flags) ≡ d
        → HasBegun (after_store port (Protect place page flags) ticket d).view ticket (Other (dropping port.view.config place page)) (port.view.stores + 1)
    stored port place page flags named ticket e (Ok store) is = (
      fresh ticket (Other (dropping port.view.config place page)) (port.view.stores + 1),
      first ticket (Other (dropping port.view.config place page)) (port.view.stores + 1) port.view.orders,
      refl,
      refl,
      refl,
      refl,
    )
    stored port place page flags named ticket e (Err fault) is =
        absurd (no-ticket (named_refusal port place named) (refusal_of fault) ticket (
        subst (λ (d : Result Store MapFault). answer_or (named_refusal port place named) (opened_if d (open_answer port.tickets named)) ≡ Ok ticket) is e))

pub translate_none_holds_none : TranslateNoneHoldsNone
translate_none_holds_none c entries place page none e held is-page for over = none_held c entries place page none e held is-page for over
