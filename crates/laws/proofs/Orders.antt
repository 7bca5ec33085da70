-- Orders: which exist, and which are open under which ticket.
use Rattle.std.proofs.Common.{◌≡◌, ℕ, ◌<◌, Bool, true, cond, ◌&&◌, List, [], ◌∷◌, ◌++◌, length, Option, Some, None, refl, ap, ◌∙◌, arith, eqb, ◌⊎◌, inl, inr, length-append}
use Rattle.std.proofs.lemmas.Bool.{and_parts, eqb-true, eq-eqb}
use Rattle.pte.specs.declared.address.What.{What}
use Rattle.shoot.specs.HartSet.{contains, harts_in, harts_where}
use Rattle.pte.specs.declared.TheConstants.{MAX_HARTS}
use Rattle.shoot.specs.declared.TheConstants.{MAX_TICKETS}
use Rattle.history.specs.Setup.{Setup, is_hart}
use Rattle.history.specs.Spaces.{asid_of, asid_in}
use Rattle.pte.specs.declared.address.What.TheVariants.{PageOf, SpaceOf}
use Rattle.history.specs.declared.event.Event.{Event}
use Rattle.history.specs.declared.event.Event.TheVariants.{Unmap, Protect, Flush, Retire, Finish}
use Rattle.history.specs.declared.reply.Reply.{Reply}
use Rattle.history.specs.Turns.{Turn, History, is_ok, opened_ticket, are_same}
use Rattle.history.specs.Orders.{Order, Cause, Unmapped, Protected, Flushed, scope_request, order_with, opened_order, order_at, held_after, open_after, open_order}
use Rattle.history.specs.Due.{due, Lawful}
use Rattle.history.proofs.OpenOrders.{order_cases, order_stays as order_or_stays}
use Rattle.laws.specs.Orders.{IsOrder, IsOpenedBy, Finishes}
use Rattle.laws.proofs.Tools.{by_test, and3}
use Rattle.laws.proofs.Accepted.{turn_of, OpeningFound, unmap_found, protect_found, flush_found, retire_found}

-- an order that was opened: its ticket was free, and it names its sender and harts that can be
-- there
pub record Opened (H : History) (order : Order) : Type 0 where
  pub bound : order.ticket < MAX_TICKETS
  pub free : open_order H order.sender order.ticket ≡ None
  pub names_sender : order.sender < MAX_HARTS → contains order.named order.sender ≡ true
  pub names_harts : (h : ℕ) → contains order.named h ≡ true → h < MAX_HARTS

-- what an opening opened
pub order_made : (hart : ℕ) (named : List Bool) (what : What) (cause : Cause) (t : Option ℕ) (order : Order) → order_with hart named what cause t ≡ Some order
    → (ticket : ℕ) × (t ≡ Some ticket) × (record { sender = hart; ticket = ticket; named = named; what = what; cause = cause } ≡ order)
order_made hart named what cause None order e = absurd cc
order_made hart named what cause (Some ticket) order e = (ticket, refl, cc)

opened_with : (H : History) (hart : ℕ) (named : List Bool) (what : What) (cause : Cause) (t : Option ℕ) (order : Order)
    → ((ticket : ℕ) → t ≡ Some ticket → OpeningFound H hart named ticket) → order_with hart named what cause t ≡ Some order → Opened H order
opened_with H hart named what cause t order f e =
    let made = order_made hart named what cause t order e in
    let found = f made.0 made.1 in
    rw (← made.2) (record { bound = found.bound; free = found.free; names_sender = found.names_sender; names_harts = found.names_harts })

pub opened_found : (C : Setup) (event : Event) (r : Reply) (H : History) (order : Order) → r ≡ due C H event → opened_order C event r H ≡ Some order → Opened H order
opened_found C (Unmap hart place page named) r H order d e =
    opened_with H hart (harts_in named) (PageOf page (asid_in C H place)) (Unmapped (asid_in C H place) page) (opened_ticket r) order (λ t q. unmap_found C H hart place page named t r d q) e
opened_found C (Protect hart place page flags named) r H order d e =
    opened_with H hart (harts_in named) (PageOf page (asid_in C H place)) (Protected (asid_in C H place) page) (opened_ticket r) order (λ t q. protect_found C H hart place page flags named t r d q) e
opened_found C (Flush hart scope named) r H order d e =
    opened_with H hart (harts_in named) (scope_request C H scope) Flushed (opened_ticket r) order (λ t q. flush_found C H hart scope named t r d q) e
opened_found C (Retire hart space) r H order d e =
    opened_with H hart (harts_where (is_hart C)) (SpaceOf (asid_of C H space)) Flushed (opened_ticket r) order (λ t q. (retire_found C H hart space t r d q).opening) e
opened_found C _ r H order d e = absurd (cc (e))

pub known : (C : Setup) (H : History) (k : ℕ) (order : Order) → Lawful C H → order_at C H k ≡ Some order → IsOrder H k order
known C [] k order l e = absurd cc
known C (turn ∷ H) k order l e =
    elim (order_cases (opened_order C turn.event turn.reply H) (length H) k (order_at C H k) order e) [
      | inl new ↦ let o = opened_found C turn.event turn.reply H order l.1 new.1 in
          let q = new.0 in
          record { below = omega arith; ticket_bound = o.bound; names_sender = o.names_sender; names_harts = o.names_harts }
      | inr old ↦ let o = known C H k order l.0 old in
          let b = o.below in
          record { below = omega arith; ticket_bound = o.ticket_bound; names_sender = o.names_sender; names_harts = o.names_harts }
    ]

-- an order stays
pub order_stays : (C : Setup) (turn : Turn) (H : History) (k : ℕ) → k < length H → order_at C (turn ∷ H) k ≡ order_at C H k
order_stays C turn H k l = order_or_stays (opened_order C turn.event turn.reply H) (length H) k (order_at C H k) l

pub orders_stay : (C : Setup) (later H : History) (k : ℕ) → k < length H → order_at C (later ++ H) k ≡ order_at C H k
orders_stay C [] H k l = refl
orders_stay C (turn ∷ later) H k l = order_stays C turn (later ++ H) k (omega (arith, length-append later H)) ∙ orders_stay C later H k l

-- what is open under a ticket is the new order, or was open
abbrev IsNew : Option Order → ℕ → ℕ → Type 0
IsNew new s t = (order : Order) × (new ≡ Some order) × (order.sender ≡ s) × (order.ticket ≡ t)

held_cases : (number : Option ℕ) (hart : ℕ) (named : List Bool) (what : What) (cause : Cause) (s t place : ℕ) (old : Option ℕ) (k : ℕ)
    → held_after number hart s t place old ≡ Some k → (IsNew (order_with hart named what cause number) s t × (place ≡ k)) ⊎ (old ≡ Some k)
held_cases None hart named what cause s t place old k e = inr e
held_cases (Some number) hart named what cause s t place old k e =
    by_test (λ v. cond v (Some place) old ≡ Some k → (IsNew (order_with hart named what cause (Some number)) s t × (place ≡ k)) ⊎ (old ≡ Some k)) (are_same hart number s t)
    (λ z q. let p = and_parts (eqb hart s) (eqb number t) z in
    let same : place ≡ k = cc in
    inl ((record { sender = hart; ticket = number; named = named; what = what; cause = cause }, refl, eqb-true hart s p.0, eqb-true number t p.1), same))
    (λ _ q. inr q) e

pub open_cases : (C : Setup) (event : Event) (r : Reply) (H : History) (s t place : ℕ) (old : Option ℕ) (k : ℕ)
    → open_after event r place s t old ≡ Some k → (IsNew (opened_order C event r H) s t × (place ≡ k)) ⊎ (old ≡ Some k)
open_cases C (Unmap hart at page named) r H s t place old k e = held_cases (opened_ticket r) hart (harts_in named) (PageOf page (asid_in C H at)) (Unmapped (asid_in C H at) page) s t place old k e
open_cases C (Protect hart at page flags named) r H s t place old k e = held_cases (opened_ticket r) hart (harts_in named) (PageOf page (asid_in C H at)) (Protected (asid_in C H at) page) s t place old k e
open_cases C (Flush hart scope named) r H s t place old k e = held_cases (opened_ticket r) hart (harts_in named) (scope_request C H scope) Flushed s t place old k e
open_cases C (Retire hart space) r H s t place old k e = held_cases (opened_ticket r) hart (harts_where (is_hart C)) (SpaceOf (asid_of C H space)) Flushed s t place old k e
open_cases C (Finish hart number) r H s t place old k e =
    by_test (λ v. cond v None old ≡ Some k → (IsNew None s t × (place ≡ k)) ⊎ (old ≡ Some k)) (is_ok r && are_same hart number s t) (λ _ q. absurd cc) (λ _ q. inr q) e
open_cases C _ r H s t place old k e = inr e

pub open_known : (C : Setup) (H : History) (s t k : ℕ) → Lawful C H → open_order H s t ≡ Some k → IsOpenedBy C H s t k
open_known C [] s t k l e = absurd cc
open_known C (turn ∷ H) s t k l e =
    elim (open_cases C turn.event turn.reply H s t (length H) (open_order H s t) k e) [
      | inl new ↦ let n = new.0 in
          record { order = n.0; is = rw (n.1, eq-eqb (length H) k new.1) refl; sender = n.2; ticket = n.3 }
      | inr old ↦ let o = open_known C H s t k l.0 old in
          record { order = o.order; is = order_stays C turn H k (known C H k o.order l.0 o.is).below ∙ o.is; sender = o.sender; ticket = o.ticket }
    ]

-- an order has one sender
pub one_sender : (C : Setup) (H : History) (k : ℕ) (a b : Order) → order_at C H k ≡ Some a → order_at C H k ≡ Some b → a.sender ≡ b.sender
one_sender C H k a b p q = let same : a ≡ b = cc (p, q) in ap (λ (o : Order). o.sender) same

pub open_below : (C : Setup) (H : History) (s t k : ℕ) → Lawful C H → open_order H s t ≡ Some k → k < length H
open_below C H s t k l e = let o = open_known C H s t k l e in (known C H k o.order l o.is).below

-- an open order stays open until its ticket is finished
held_stays : (number : Option ℕ) (hart s t place : ℕ) (old : Option ℕ) (k : ℕ) → ((n : ℕ) → number ≡ Some n → are_same hart n s t ≡ true → old ≡ None)
    → old ≡ Some k → held_after number hart s t place old ≡ Some k
held_stays None hart s t place old k f e = e
held_stays (Some n) hart s t place old k f e = by_test (λ v. cond v (Some place) old ≡ Some k) (are_same hart n s t) (λ z. absurd (cc (f n refl z, e))) (λ _. e)

free_at : (H : History) (hart : ℕ) (named : List Bool) (n s t : ℕ) → OpeningFound H hart named n → are_same hart n s t ≡ true → open_order H s t ≡ None
free_at H hart named n s t found z =
    let p = and_parts (eqb hart s) (eqb n t) z in rw (← eqb-true hart s p.0, ← eqb-true n t p.1) found.free

pub open_stays : (C : Setup) (event : Event) (r : Reply) (H : History) (s t k : ℕ) → r ≡ due C H event → open_order H s t ≡ Some k
    → (open_order (turn_of event r ∷ H) s t ≡ Some k) ⊎ Finishes (turn_of event r) s t
open_stays C (Unmap hart place page named) r H s t k d e =
    inl (held_stays (opened_ticket r) hart s t (length H) (open_order H s t) k (λ n q z. free_at H hart (harts_in named) n s t (unmap_found C H hart place page named n r d q) z) e)
open_stays C (Protect hart place page flags named) r H s t k d e =
    inl (held_stays (opened_ticket r) hart s t (length H) (open_order H s t) k (λ n q z. free_at H hart (harts_in named) n s t (protect_found C H hart place page flags named n r d q) z) e)
open_stays C (Flush hart scope named) r H s t k d e =
    inl (held_stays (opened_ticket r) hart s t (length H) (open_order H s t) k (λ n q z. free_at H hart (harts_in named) n s t (flush_found C H hart scope named n r d q) z) e)
open_stays C (Retire hart space) r H s t k d e =
    inl (held_stays (opened_ticket r) hart s t (length H) (open_order H s t) k (λ n q z. free_at H hart (harts_where (is_hart C)) n s t (retire_found C H hart space n r d q).opening z) e)
open_stays C (Finish hart number) r H s t k d e =
    by_test (λ v. (cond v None (open_order H s t) ≡ Some k) ⊎ Finishes (turn_of (Finish hart number) r) s t) (is_ok r && are_same hart number s t)
    (λ z. let p = and3 (is_ok r) (eqb hart s) (eqb number t) z in
    inr (record { event = rw (eqb-true hart s p.1, eqb-true number t p.2) refl; accepted = p.0 }))
    (λ _. inl e)
open_stays C _ r H s t k d e = inl e
