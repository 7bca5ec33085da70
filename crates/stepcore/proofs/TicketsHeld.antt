-- The tickets that a history leaves: what each says, and which table stands after a change at one
-- number.
use Rattle.std.proofs.Common.{subst, ◌≡◌, ℕ, zero, suc, ◌+◌, ◌<◌, ◌≤◌, Bool, true, false, cond, ◌&&◌, not, List, length, map, Option, Some, None, slice_get, slice_set, refl, ap, sym, ◌∙◌, arith, ltb}
use Rattle.std.specs.Prelude.{is_some, is_none, unwrap_or}
use Rattle.std.specs.List.{range_with_len, position_from}
use Rattle.std.proofs.lemmas.Bool.{ltb-true, ltb-false}
use Rattle.std.proofs.lemmas.Iterator.Adapters.{position_from-zero}
use Rattle.std.proofs.lemmas.List.FromFn.{length-map-range_with_len}
use Rattle.pte.specs.declared.address.What.TheVariants.{All}
use Rattle.shoot.specs.HartSet.{contains, difference, is_empty, byte_of, harts_where}
use Rattle.shoot.specs.Tickets.{if_open, ticket_at, is_open, names, ticket_posted, ticket_acked, ticket_collected, what_at, with_ticket, with_change, changed, tells, asked, uncollected, is_done, is_done_at, done_with, progress, lowest_free}
use Rattle.pte.specs.declared.TheConstants.{MAX_HARTS}
use Rattle.shoot.specs.declared.TheConstants.{MAX_TICKETS}
use Rattle.shoot.specs.declared.tickets.Ticket.{Ticket}
use Rattle.shoot.specs.declared.tickets.Collected.TheVariants as collected
use Rattle.shoot.proofs.HartSets.{by_test, where_agree, contains_where}
use Rattle.history.specs.Setup.{Setup}
use Rattle.history.specs.Turns.{History}
use Rattle.history.specs.Orders.{Order, order_at, open_order, what_asked, what_of}
use Rattle.history.specs.Acknowledgements as told
use Rattle.history.specs.Due.{Lawful, least_free, left_reply}
use Rattle.history.specs.Due as due
use Rattle.laws.proofs.Orders.{known, open_known}
use Rattle.stepcore.specs.Answers.{progress_reply}
use Rattle.stepcore.specs.Stands.{ticket_with, ticket_held, ticket_of, tickets_of}

-- ---- what is read of a function's values over a range

get_map : {A : Type 0} (f : ℕ → A) (from count at n : ℕ) → at < count → from + at ≡ n → slice_get (map f (range_with_len from count)) at ≡ Some (f n)
get_map f from zero at n l e = absurd (omega arith)
get_map f from (suc count) zero n l e = let same : from ≡ n = omega arith in ap (λ i. Some (f i)) same
get_map f from (suc count) (suc at) n l e = get_map f (from + 1) count at n (omega arith) (omega arith)

get_map_past : {A : Type 0} (f : ℕ → A) (from count at : ℕ) → count ≤ at → slice_get (map f (range_with_len from count)) at ≡ None
get_map_past f from zero at l = refl
get_map_past f from (suc count) zero l = absurd (omega arith)
get_map_past f from (suc count) (suc at) l = get_map_past f (from + 1) count at (omega arith)

map_agree : {A : Type 0} (f g : ℕ → A) (from count : ℕ) → ((n : ℕ) → from ≤ n → f n ≡ g n) → map f (range_with_len from count) ≡ map g (range_with_len from count)
map_agree f g from zero h = refl
map_agree f g from (suc count) h =
    let here : f from ≡ g from = h from (omega arith) in
    let rest : map f (range_with_len (from + 1) count) ≡ map g (range_with_len (from + 1) count) = map_agree f g (from + 1) count (λ n l. h n (omega arith)) in
    cc

-- setting the value of one number
set_map : {A : Type 0} (f g : ℕ → A) (x : A) (from count at n : ℕ) → from + at ≡ n → g n ≡ x → ((i : ℕ) → (i ≡ n → ⊥) → f i ≡ g i)
    → slice_set (map f (range_with_len from count)) at x ≡ map g (range_with_len from count)
set_map f g x from zero at n e is others = refl
set_map f g x from (suc count) zero n e is others =
    let same : from ≡ n = omega arith in
    let here : x ≡ g from = sym is ∙ ap g (sym same) in
    let rest : map f (range_with_len (from + 1) count) ≡ map g (range_with_len (from + 1) count) = map_agree f g (from + 1) count (λ i l. others i (λ q. omega arith)) in
    cc
set_map f g x from (suc count) (suc at) n e is others =
    let here : f from ≡ g from = others from (λ q. omega arith) in
    let rest = set_map f g x (from + 1) count at n (omega arith) is others in
    cc

-- ---- the tickets by number

none_from : {A : Type 0} (o : Option A) → ((x : A) → o ≡ Some x → ⊥) → o ≡ None
none_from None f = refl
none_from (Some x) f = absurd (f x refl)

-- no order is open under a number that no ticket has
pub none_open : (C : Setup) (H : History) (s t : ℕ) → Lawful C H → MAX_TICKETS ≤ t → open_order H s t ≡ None
none_open C H s t l past =
    none_from (open_order H s t) (λ k e.
    let own = open_known C H s t k l e in
    let bound = (known C H k own.order l own.is).ticket_bound in
    let same = own.ticket in
    omega arith)

pub open_bound : (C : Setup) (H : History) (s t k : ℕ) → Lawful C H → open_order H s t ≡ Some k → t < MAX_TICKETS
open_bound C H s t k l e =
    let own = open_known C H s t k l e in
    let bound = (known C H k own.order l own.is).ticket_bound in
    let same = own.ticket in
    omega arith

pub ticket_told : (C : Setup) (H : History) (s t : ℕ) → Lawful C H → ticket_at (tickets_of C H s) t ≡ ticket_of C H s t
ticket_told C H s t l =
    by_test (λ v. ticket_at (tickets_of C H s) t ≡ ticket_of C H s t) (ltb t MAX_TICKETS)
    (λ e. ap if_open (get_map (ticket_of C H s) 0 MAX_TICKETS t t (ltb-true t MAX_TICKETS e) (omega arith)))
    (λ e. let past : MAX_TICKETS ≤ t = ltb-false t MAX_TICKETS e in
    ap if_open (get_map_past (ticket_of C H s) 0 MAX_TICKETS t past) ∙ ap (ticket_held C H) (sym (none_open C H s t l past)))

pub length_held : (C : Setup) (H : History) (s : ℕ) → length (tickets_of C H s).tickets ≡ MAX_TICKETS
length_held C H s = length-map-range_with_len (ticket_of C H s) 0 MAX_TICKETS

-- the table with one number's ticket replaced is that of a history that leaves this ticket there,
-- and the others as they are
pub held_with : (C : Setup) (H G : History) (s number : ℕ) (ticket : Option Ticket) → ticket_of C G s number ≡ ticket
    → ((t : ℕ) → (t ≡ number → ⊥) → ticket_of C H s t ≡ ticket_of C G s t) → with_ticket (tickets_of C H s) number ticket ≡ tickets_of C G s
held_with C H G s number ticket is others =
    let set = set_map (ticket_of C H s) (ticket_of C G s) ticket 0 MAX_TICKETS number number (omega arith) is others in
    ap (λ (xs : List (Option Ticket)). record { hart = s; tickets = xs }) set

pub held_changed : (C : Setup) (H G : History) (s number : ℕ) (change : Ticket → Ticket) → Lawful C H
    → ticket_of C G s number ≡ changed change (ticket_of C H s number)
    → ((t : ℕ) → (t ≡ number → ⊥) → ticket_of C H s t ≡ ticket_of C G s t) → with_change (tickets_of C H s) number change ≡ tickets_of C G s
held_changed C H G s number change l is others =
    held_with C H G s number (changed change (ticket_at (tickets_of C H s) number)) (is ∙ ap (changed change) (sym (ticket_told C H s number l))) others

pub held_same : (C : Setup) (H G : History) (s : ℕ) → ((t : ℕ) → ticket_of C H s t ≡ ticket_of C G s t) → tickets_of C H s ≡ tickets_of C G s
held_same C H G s same =
    ap (λ (xs : List (Option Ticket)). record { hart = s; tickets = xs }) (map_agree (ticket_of C H s) (ticket_of C G s) 0 MAX_TICKETS (λ n l. same n))

-- ---- what a ticket says

-- the ticket of an order that is open
abbrev pub ticket_for : Setup → History → ℕ → Order → Ticket
ticket_for C H k order = record {
  what = order.what;
  named = order.named;
  posted = harts_where (told.is_posted H k);
  acked = harts_where (told.is_acked C H k);
  collected = harts_where (told.is_collected C H k);
}

-- the open order of a number
pub record OpenHere (C : Setup) (H : History) (s t k : ℕ) : Type 0 where
  pub order : Order
  pub is : order_at C H k ≡ Some order
  pub sender : order.sender ≡ s
  pub number : order.ticket ≡ t
  pub names_sender : s < MAX_HARTS → contains order.named s ≡ true
  pub ticket : ticket_at (tickets_of C H s) t ≡ Some (ticket_for C H k order)

pub open_here : (C : Setup) (H : History) (s t k : ℕ) → Lawful C H → open_order H s t ≡ Some k → OpenHere C H s t k
open_here C H s t k l e =
    let own = open_known C H s t k l e in
    record {
      order = own.order;
      is = own.is;
      sender = own.sender;
      number = own.ticket;
      names_sender = λ less. ap (contains own.order.named) (sym own.sender) ∙ (known C H k own.order l own.is).names_sender (subst (λ x. x < MAX_HARTS) (sym own.sender) less);
      ticket = ticket_told C H s t l ∙ (ap (ticket_held C H) e ∙ ap (ticket_with C H k) own.is);
    }

pub free_here : (C : Setup) (H : History) (s t : ℕ) → Lawful C H → open_order H s t ≡ None → ticket_at (tickets_of C H s) t ≡ None
free_here C H s t l e = ticket_told C H s t l ∙ ap (ticket_held C H) e

is_open_with : (C : Setup) (H : History) (s t : ℕ) (o : Option ℕ) → Lawful C H → open_order H s t ≡ o → is_open (tickets_of C H s) t ≡ is_some o
is_open_with C H s t None l e = ap is_some (free_here C H s t l e)
is_open_with C H s t (Some k) l e = ap is_some (open_here C H s t k l e).ticket

pub open_told : (C : Setup) (H : History) (s t : ℕ) → Lawful C H → is_open (tickets_of C H s) t ≡ is_some (open_order H s t)
open_told C H s t l = is_open_with C H s t (open_order H s t) l refl

pub names_told : (C : Setup) (H : History) (s t k h : ℕ) → Lawful C H → open_order H s t ≡ Some k → names (tickets_of C H s) t h ≡ due.names (order_at C H k) h
names_told C H s t k h l e =
    let o = open_here C H s t k l e in
    ap (λ (x : Option Ticket). tells (λ ticket. ticket.named) x h) o.ticket ∙ ap (λ (x : Option Order). due.names x h) (sym o.is)

pub posted_told : (C : Setup) (H : History) (s t k h : ℕ) → Lawful C H → open_order H s t ≡ Some k → h < MAX_HARTS → ticket_posted (tickets_of C H s) t h ≡ told.is_posted H k h
posted_told C H s t k h l e below =
    ap (λ (x : Option Ticket). tells (λ ticket. ticket.posted) x h) (open_here C H s t k l e).ticket ∙ contains_where (told.is_posted H k) h below

pub acked_told : (C : Setup) (H : History) (s t k h : ℕ) → Lawful C H → open_order H s t ≡ Some k → h < MAX_HARTS → ticket_acked (tickets_of C H s) t h ≡ told.is_acked C H k h
acked_told C H s t k h l e below =
    ap (λ (x : Option Ticket). tells (λ ticket. ticket.acked) x h) (open_here C H s t k l e).ticket ∙ contains_where (told.is_acked C H k) h below

pub collected_told : (C : Setup) (H : History) (s t k h : ℕ) → Lawful C H → open_order H s t ≡ Some k → h < MAX_HARTS → ticket_collected (tickets_of C H s) t h ≡ told.is_collected C H k h
collected_told C H s t k h l e below =
    ap (λ (x : Option Ticket). tells (λ ticket. ticket.collected) x h) (open_here C H s t k l e).ticket ∙ contains_where (told.is_collected C H k) h below

what_with : (C : Setup) (H : History) (s t : ℕ) (o : Option ℕ) → Lawful C H → open_order H s t ≡ o → unwrap_or (what_at (tickets_of C H s) t) All ≡ what_of C H o
what_with C H s t None l e = ap (λ (x : Option Ticket). unwrap_or (asked x) All) (free_here C H s t l e)
what_with C H s t (Some k) l e =
    let o = open_here C H s t k l e in
    ap (λ (x : Option Ticket). unwrap_or (asked x) All) o.ticket ∙ ap what_asked (sym o.is)

-- what a ticket asks; for a number that is free, all
pub what_told : (C : Setup) (H : History) (s t : ℕ) → Lawful C H → unwrap_or (what_at (tickets_of C H s) t) All ≡ what_of C H (open_order H s t)
what_told C H s t l = what_with C H s t (open_order H s t) l refl

-- ---- the lowest number that is free

free_with : (C : Setup) (H : History) (s t : ℕ) (o : Option ℕ) → Lawful C H → open_order H s t ≡ o → is_none (ticket_of C H s t) ≡ is_none o
free_with C H s t None l e = ap is_none (ap (ticket_held C H) e)
free_with C H s t (Some k) l e = let own = open_known C H s t k l e in ap is_none (ap (ticket_held C H) e ∙ ap (ticket_with C H k) own.is)

free_from : (C : Setup) (H : History) (s n from : ℕ) → Lawful C H → position_from is_none from (map (ticket_of C H s) (range_with_len from n)) ≡ least_free H s n from
free_from C H s zero from l = refl
free_from C H s (suc n) from l = rw (free_with C H s from (open_order H s from) l refl, free_from C H s n (from + 1) l) refl

pub free_told : (C : Setup) (H : History) (s : ℕ) → Lawful C H → lowest_free (tickets_of C H s) ≡ least_free H s MAX_TICKETS 0
free_told C H s l = position_from-zero is_none (map (ticket_of C H s) (range_with_len 0 MAX_TICKETS)) ∙ free_from C H s MAX_TICKETS 0 l

-- ---- how far a ticket is

-- the harts that an order names and whose acknowledgement is not collected
abbrev pub left_of : Setup → History → ℕ → List Bool
left_of C H k = harts_where (λ h. due.names (order_at C H k) h && not (told.is_collected C H k h))

pub uncollected_told : (C : Setup) (H : History) (k : ℕ) (order : Order) → order_at C H k ≡ Some order → uncollected (ticket_for C H k order) ≡ left_of C H k
unfolding difference
uncollected_told C H k order e =
    where_agree (λ h. contains order.named h && not (contains (harts_where (told.is_collected C H k)) h)) (λ h. due.names (order_at C H k) h && not (told.is_collected C H k h))
    (λ h below. rw (contains_where (told.is_collected C H k) h below, e) refl)

pub done_told : (C : Setup) (H : History) (s t k : ℕ) → Lawful C H → open_order H s t ≡ Some k → is_done_at (tickets_of C H s) t ≡ due.is_done C H k
done_told C H s t k l e =
    let o = open_here C H s t k l e in
    ap done_with o.ticket ∙ ap is_empty (uncollected_told C H k o.order o.is)

left_over : (left : List Bool) (test : Bool) → is_empty left ≡ test → progress_reply (cond test collected.Done (collected.Waiting (byte_of left))) ≡ left_reply left
left_over left true e = rw e refl
left_over left false e = rw e refl

pub progress_told : (ticket : Ticket) → progress_reply (progress ticket) ≡ left_reply (uncollected ticket)
progress_told ticket = left_over (uncollected ticket) (is_done ticket) refl
