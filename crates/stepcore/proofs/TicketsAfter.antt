-- The tickets of a machine that stands at a history, after one more event: they are those of the
-- longer history.
use Rattle.std.proofs.Common.{◌≡◌, ℕ, ◌<◌, Bool, true, false, cond, ◌&&◌, List, length, not, Option, Some, None, slice_get, slice_set, refl, ap, sym, ◌∙◌, arith, eqb}
use Rattle.std.specs.Prelude.{is_none, unwrap_or, Result, Ok, Err}
use Rattle.std.proofs.lemmas.Bool.{ltb-true, eqb-true, eq-eqb, ne_eqb, and_parts, not-false, false≢true, false_from_ne_true}
use Rattle.pte.specs.Address.{Span}
use Rattle.pte.specs.declared.address.What.{What}
use Rattle.pte.specs.declared.flags.PteFlags.{PteFlags}
use Rattle.spaces.specs.declared.faults.MapFault.{MapFault}
use Rattle.spaces.specs.declared.places.Place.{Place}
use Rattle.spaces.specs.Edits.{Store}
use Rattle.spaces.proofs.Lists.{slice_get-set_same, slice_get-set_other}
use Rattle.shoot.specs.HartSet.{harts_in, no_harts}
use Rattle.shoot.specs.Tickets.{TicketTable, acked_by, no_tickets, names, open_answer, after_open, with_opened, new_ticket, after_posted, after_acked, after_collect, after_finish, is_done_at, with_ticket, with_posted, with_acked, with_collected, changed}
use Rattle.shoot.specs.declared.tickets.Ticket.{Ticket}
use Rattle.shoot.specs.declared.tickets.TicketFault.{TicketFault}
use Rattle.shoot.proofs.HartSets.{by_test, where_agree}
use Rattle.history.proofs.Occurred.{same_from}
use Rattle.history.specs.declared.event.Event.{Event}
use Rattle.history.specs.declared.event.Event.TheVariants.{Unmap, Protect, Flush, Post, Ack, AckSelf, Collect, Finish, Retire}
use Rattle.history.specs.declared.event.Scope.{Scope}
use Rattle.history.specs.declared.refusal.Refusal.TheVariants.{NoHart, NoSpace, NotHome, HomeNotNamed, InUse, Retiring, NotDone, NotServing}
use Rattle.history.specs.declared.reply.Reply.{Reply}
use Rattle.history.specs.declared.reply.Reply.TheVariants as reply
use Rattle.history.specs.Setup.{Setup, is_hart}
use Rattle.history.specs.Turns.{History, is_ok, is_progress, are_same}
use Rattle.history.specs.Orders.{Order, Cause, Unmapped, Protected, Flushed, scope_request, order_at, open_order}
use Rattle.history.specs.Spaces.{asid_in, asid_of}
use Rattle.pte.specs.declared.address.What.TheVariants.{PageOf, SpaceOf}
use Rattle.stepcore.proofs.EveryHart.{every_named, own_named}
use Rattle.shoot.specs.declared.TheConstants.{MAX_TICKETS}
use Rattle.stepcore.specs.Answers.{every_hart}
use Rattle.stepcore.proofs.SpaceReplies.{page_asked, scope_asked, space_below}
use Rattle.history.specs.Mailboxes.{Sent}
use Rattle.history.specs.Service.{served, is_served, has_fenced}
use Rattle.history.specs.Acknowledgements.{is_posted, is_acked, is_collected}
use Rattle.history.specs.Due.{least_free, opened_reply, is_place, is_scope, is_space, open_reply, edit_reply, is_done, due, Lawful}
use Rattle.history.proofs.Passing.{refuse, ack_self_reply, finish_reply}
use Rattle.history.specs.Runs.{with_turn}
use Rattle.laws.proofs.Accepted.{passed, ok_accepted, progress_accepted, post_found, collect_found}
use Rattle.laws.proofs.Acknowledged.{acked_below, collected_acked, served_is}
use Rattle.laws.proofs.Live.{served_live}
use Rattle.laws.proofs.Orders.{open_below}
use Rattle.laws.proofs.Posts.{served_post}
use Rattle.laws.proofs.Tools.{and3}
use Rattle.laws.proofs.Waiting.{posted_below}
use Rattle.stepcore.specs.declared.serving.Serving.{Serving as Service}
use Rattle.stepcore.specs.State.{State, IsMachine, hart_at, tickets_at}
use Rattle.stepcore.specs.Answers.{opening_answer}
use Rattle.stepcore.specs.Changes.{put_tickets, tickets_after_ack, tickets_after}
use Rattle.stepcore.specs.Stands.{service_with, ticket_with, ticket_held, ticket_of, tickets_of, Stands}
use Rattle.stepcore.proofs.TicketsHeld.{ticket_for, OpenHere, open_here, names_told, done_told, held_with, held_changed, held_same}
use Rattle.stepcore.proofs.TicketMarks.{posted_mark, own_mark, acked_mark, collected_mark, mark_off, ticket_parts, ticket_same, one_number, post_others, own_others, collect_others}
use Rattle.stepcore.proofs.TicketReplies.{opening_told, own_acked}

-- ---- a list with one hart's part replaced

-- the tickets of hart h, where those of hart a are put if the test holds
put_cases : (m : State) (a : ℕ) (test : Bool) (table target : TicketTable) (h : ℕ) → h < length m.tickets
    → (test ≡ true → a ≡ h → table ≡ target) → ((test ≡ true → a ≡ h → ⊥) → tickets_at m h ≡ target)
    → unwrap_or (slice_get (put_tickets m a test table) h) (no_tickets h) ≡ target
put_cases m a false table target h below f g = g (λ e. absurd (false≢true e))
put_cases m a true table target h below f g =
    by_test (λ v. unwrap_or (slice_get (slice_set m.tickets a table) h) (no_tickets h) ≡ target) (eqb a h)
    (λ e. let same : a ≡ h = eqb-true a h e in
    rw same (ap (λ (x : Option TicketTable). unwrap_or x (no_tickets h)) (slice_get-set_same m.tickets h table below)) ∙ f refl same)
    (λ e. let other : a ≡ h → ⊥ = λ same. false≢true (sym e ∙ eq-eqb a h same) in
    ap (λ (x : Option TicketTable). unwrap_or x (no_tickets h)) (slice_get-set_other m.tickets a h table other) ∙ g (λ _. other))

-- ---- an opening

-- a turn that opens an order of hart a under ticket n, at the place of the turn
record Opens (C : Setup) (H G : History) (a n : ℕ) (new : Order) : Type 0 where
  pub order : (k : ℕ) → order_at C G k ≡ cond (eqb (length H) k) (Some new) (order_at C H k)
  pub opened : (s t : ℕ) → open_order G s t ≡ cond (are_same a n s t) (Some (length H)) (open_order H s t)
  pub posted : (k h : ℕ) → is_posted H k h ≡ is_posted G k h
  pub acked : (k h : ℕ) → is_acked C H k h ≡ is_acked C G k h
  pub collected : (k h : ℕ) → is_collected C H k h ≡ is_collected C G k h

other_numbers : (a n s t : ℕ) → (a ≡ s → n ≡ t → ⊥) → are_same a n s t ≡ false
other_numbers a n s t f = false_from_ne_true (are_same a n s t) (λ e. let p = and_parts (eqb a s) (eqb n t) e in f (eqb-true a s p.0) (eqb-true n t p.1))

-- an order that is not opened yet is not posted, acknowledged or collected
unposted : (C : Setup) (H : History) (h : ℕ) → Lawful C H → is_posted H (length H) h ≡ false
unposted C H h l = false_from_ne_true (is_posted H (length H) h) (λ e. let b = posted_below C H (length H) h l e in omega arith)

unacked : (C : Setup) (H : History) (h : ℕ) → Lawful C H → is_acked C H (length H) h ≡ false
unacked C H h l = false_from_ne_true (is_acked C H (length H) h) (λ e. let b = acked_below C H (length H) h l e in omega arith)

uncollected : (C : Setup) (H : History) (h : ℕ) → Lawful C H → is_collected C H (length H) h ≡ false
uncollected C H h l = false_from_ne_true (is_collected C H (length H) h) (λ e. let b = acked_below C H (length H) h l (collected_acked C H (length H) h e) in omega arith)

abbrev new_order : ℕ → ℕ → ℕ → What → Cause → Order
new_order a n named what cause = record { sender = a; ticket = n; named = harts_in named; what = what; cause = cause }

new_held : (C : Setup) (H G : History) (a n named : ℕ) (what : What) (cause : Cause) → Lawful C H → Opens C H G a n (new_order a n named what cause)
    → ticket_of C G a n ≡ Some (new_ticket what named)
new_held C H G a n named what cause l o =
    let k = length H in
    let place : open_order G a n ≡ Some k = o.opened a n ∙ ap (λ v. cond v (Some k) (open_order H a n)) (same_from a n) in
    let order : order_at C G k ≡ Some (new_order a n named what cause) = o.order k ∙ ap (λ v. cond v (Some (new_order a n named what cause)) (order_at C H k)) (eq-eqb k k refl) in
    ap (ticket_held C G) place ∙ (ap (ticket_with C G k) order
    ∙ ticket_parts what (harts_in named) _ no_harts _ no_harts _ no_harts
    (where_agree (is_posted G k) (λ _. false) (λ h _. sym (o.posted k h) ∙ unposted C H h l))
    (where_agree (is_acked C G k) (λ _. false) (λ h _. sym (o.acked k h) ∙ unacked C H h l))
    (where_agree (is_collected C G k) (λ _. false) (λ h _. sym (o.collected k h) ∙ uncollected C H h l)))

opening_others : (C : Setup) (H G : History) (a n : ℕ) (new : Order) → Lawful C H → Opens C H G a n new → (s t : ℕ) → (a ≡ s → n ≡ t → ⊥)
    → ticket_of C H s t ≡ ticket_of C G s t
opening_others C H G a n new l o s t other =
    ticket_same C H G (open_order H s t) (λ k e. record {
      order = let below = open_below C H s t k l e in
          sym (o.order k ∙ ap (λ v. cond v (Some new) (order_at C H k)) (ne_eqb (length H) k (λ q. omega arith)));
      posted = o.posted k;
      acked = o.acked k;
      collected = o.collected k;
    })
    ∙ ap (ticket_held C G) (sym (o.opened s t ∙ ap (λ v. cond v (Some (length H)) (open_order H s t)) (other_numbers a n s t other)))

opened_is : (x : Result ℕ TicketFault) (n : ℕ) → opening_answer x ≡ reply.Opened n → x ≡ Ok n
opened_is (Ok t) n e = let same : t ≡ n = cc in ap Ok same
opened_is (Err fault) n e = absurd (cc (e))

edit_opens : (store : Result Store MapFault) (opening : Reply) (n : ℕ) → edit_reply store opening ≡ reply.Opened n → opening ≡ reply.Opened n
edit_opens (Ok store) opening n e = e
edit_opens (Err fault) opening n e = absurd (cc (e))

opened_held : (C : Setup) (H G : History) (a n named : ℕ) (what : What) (cause : Cause) → Lawful C H → Opens C H G a n (new_order a n named what cause)
    → open_reply H a named ≡ reply.Opened n → after_open (tickets_of C H a) what named ≡ tickets_of C G a
opened_held C H G a n named what cause l o e =
    let answer : open_answer (tickets_of C H a) named ≡ Ok n = opened_is (open_answer (tickets_of C H a) named) n (opening_told C H a named l ∙ e) in
    ap (λ (x : Result ℕ TicketFault). with_opened (tickets_of C H a) x (new_ticket what named)) answer
    ∙ held_with C H G a n (Some (new_ticket what named)) (new_held C H G a n named what cause l o)
    (λ t other. opening_others C H G a n (new_order a n named what cause) l o a t (λ _ q. other (sym q)))

-- ---- a mark of an open order

marked_held : (C : Setup) (H G : History) (s t k : ℕ) (change : Ticket → Ticket) (o : OpenHere C H s t k) → open_order H s t ≡ Some k → open_order G s t ≡ Some k
    → order_at C G k ≡ Some o.order → change (ticket_for C H k o.order) ≡ ticket_for C G k o.order → ticket_of C G s t ≡ changed change (ticket_of C H s t)
marked_held C H G s t k change o e f is after =
    let old : ticket_of C H s t ≡ Some (ticket_for C H k o.order) = ap (ticket_held C H) e ∙ ap (ticket_with C H k) o.is in
    let new : ticket_of C G s t ≡ Some (ticket_for C G k o.order) = ap (ticket_held C G) f ∙ ap (ticket_with C G k) is in
    new ∙ (ap Some (sym after) ∙ sym (ap (changed change) old))

-- ---- what an accepted AckSelf and Finish found

self_with : (C : Setup) (H : History) (h t : ℕ) (o : Option ℕ) (r : Reply) → ack_self_reply C H h t o ≡ r → is_progress r ≡ true → (k : ℕ) × (o ≡ Some k)
self_with C H h t None r e z = absurd (false≢true (ap is_progress e ∙ z))
self_with C H h t (Some k) r e z = (k, refl)

self_found : (C : Setup) (H : History) (h t : ℕ) (r : Reply) → r ≡ due C H (AckSelf h t) → is_progress r ≡ true → (k : ℕ) × (open_order H h t ≡ Some k)
self_found C H h t r d z = self_with C H h t (open_order H h t) r (passed _ NoHart _ r (sym d) (progress_accepted r z)).1 z

finish_with : (C : Setup) (H : History) (o : Option ℕ) (r : Reply) → finish_reply C H o ≡ r → is_ok r ≡ true → (k : ℕ) × (o ≡ Some k) × (is_done C H k ≡ true)
finish_with C H None r e z = absurd (false≢true (ap is_ok e ∙ z))
finish_with C H (Some k) r e z = (k, refl, not-false (is_done C H k) (passed _ NotDone _ r e (ok_accepted r z)).0)

finished_is : (C : Setup) (H : History) (h t : ℕ) (r : Reply) → r ≡ due C H (Finish h t) → is_ok r ≡ true → (k : ℕ) × (open_order H h t ≡ Some k) × (is_done C H k ≡ true)
finished_is C H h t r d z = finish_with C H (open_order H h t) r (passed _ NoHart _ r (sym d) (ok_accepted r z)).1 z

-- ---- each event

ack_served : (C : Setup) (H : History) (b : ℕ) (r : Reply) → r ≡ due C H (Ack b) → is_ok r ≡ true → is_hart C b ≡ true
ack_served C H b r d z = not-false (is_hart C b) (passed _ NoHart _ r (sym d) (ok_accepted r z)).0

unmoved : (m : State) (b : ℕ) (serving : Option Service) → tickets_after_ack m b false serving ≡ m.tickets
unmoved m b None = refl
unmoved m b (Some serving) = refl

module _ (C : Setup) (m : State) (H : History) (st : Stands C m H) (machine : IsMachine m) where
  abbrev IsAfter : Event → Reply → ℕ → Type 0
  IsAfter event reply h = unwrap_or (slice_get (tickets_after m event reply) h) (no_tickets h) ≡ tickets_of C (with_turn event reply H) h

  -- the table of hart a that is put, where the longer history leaves the tickets of the others
  put_after : (G : History) (a : ℕ) (test : Bool) (table : TicketTable) (h : ℕ) → h < C.harts
      → (test ≡ true → a < C.harts → tickets_at m a ≡ tickets_of C H a → table ≡ tickets_of C G a)
      → ((t : ℕ) → (test ≡ true → a ≡ h → ⊥) → ticket_of C H h t ≡ ticket_of C G h t)
      → unwrap_or (slice_get (put_tickets m a test table) h) (no_tickets h) ≡ tickets_of C G h
  put_after G a test table h below f g =
      let harts : length m.harts ≡ C.harts = ap (λ (S : Setup). S.harts) st.setup in
      let tables = machine.tickets in
      put_cases m a test table (tickets_of C G h) h (omega arith)
      (λ z same. let inside : a < C.harts = omega arith in f z inside (st.tickets a inside) ∙ ap (tickets_of C G) same)
      (λ quiet. st.tickets h below ∙ held_same C H G h (λ t. g t quiet))

  opening_after : (G : History) (a n named : ℕ) (what : What) (cause : Cause) → Opens C H G a n (new_order a n named what cause) → open_reply H a named ≡ reply.Opened n
      → (h : ℕ) → h < C.harts → unwrap_or (slice_get (put_tickets m a true (after_open (tickets_at m a) what named)) h) (no_tickets h) ≡ tickets_of C G h
  opening_after G a n named what cause o e h below =
      put_after G a true (after_open (tickets_at m a) what named) h below
      (λ _ _ at. ap (λ (x : TicketTable). after_open x what named) at ∙ opened_held C H G a n named what cause st.lawful o e)
      (λ t quiet. opening_others C H G a n (new_order a n named what cause) st.lawful o h t (λ q _. quiet refl q))

  unmap_after : (a : ℕ) (place : Place) (page : Span) (named : ℕ) (r : Reply) → r ≡ due C H (Unmap a place page named) → (h : ℕ) → h < C.harts → IsAfter (Unmap a place page named) r h
  unmap_after a place page named (reply.Opened n) d h below =
      let p = passed _ NoHart _ (reply.Opened n) (sym d) refl in
      let q = passed _ NoSpace _ (reply.Opened n) p.1 refl in
      let v = passed _ Retiring _ (reply.Opened n) q.1 refl in
      let G = with_turn (Unmap a place page named) (reply.Opened n) H in
      let opens : Opens C H G a n (new_order a n named (PageOf page (asid_in C H place)) (Unmapped (asid_in C H place) page)) =
      record { order = λ k. refl; opened = λ s t. refl; posted = λ k i. refl; acked = λ k i. refl; collected = λ k i. refl } in
      ap (λ (w : What). unwrap_or (slice_get (put_tickets m a true (after_open (tickets_at m a) w named)) h) (no_tickets h)) (page_asked C m H st place page (not-false (is_place C H place) q.0))
      ∙ opening_after G a n named (PageOf page (asid_in C H place)) (Unmapped (asid_in C H place) page) opens (edit_opens _ _ n v.1) h below
  unmap_after a place page named _ d h below = st.tickets h below

  protect_after : (a : ℕ) (place : Place) (page : Span) (flags : PteFlags) (named : ℕ) (r : Reply) → r ≡ due C H (Protect a place page flags named) → (h : ℕ) → h < C.harts
      → IsAfter (Protect a place page flags named) r h
  protect_after a place page flags named (reply.Opened n) d h below =
      let p = passed _ NoHart _ (reply.Opened n) (sym d) refl in
      let q = passed _ NoSpace _ (reply.Opened n) p.1 refl in
      let v = passed _ Retiring _ (reply.Opened n) q.1 refl in
      let G = with_turn (Protect a place page flags named) (reply.Opened n) H in
      let opens : Opens C H G a n (new_order a n named (PageOf page (asid_in C H place)) (Protected (asid_in C H place) page)) =
      record { order = λ k. refl; opened = λ s t. refl; posted = λ k i. refl; acked = λ k i. refl; collected = λ k i. refl } in
      ap (λ (w : What). unwrap_or (slice_get (put_tickets m a true (after_open (tickets_at m a) w named)) h) (no_tickets h)) (page_asked C m H st place page (not-false (is_place C H place) q.0))
      ∙ opening_after G a n named (PageOf page (asid_in C H place)) (Protected (asid_in C H place) page) opens (edit_opens _ _ n v.1) h below
  protect_after a place page flags named _ d h below = st.tickets h below

  flush_after : (a : ℕ) (scope : Scope) (named : ℕ) (r : Reply) → r ≡ due C H (Flush a scope named) → (h : ℕ) → h < C.harts → IsAfter (Flush a scope named) r h
  flush_after a scope named (reply.Opened n) d h below =
      let p = passed _ NoHart _ (reply.Opened n) (sym d) refl in
      let q = passed _ NoSpace _ (reply.Opened n) p.1 refl in
      let v = passed _ Retiring _ (reply.Opened n) q.1 refl in
      let G = with_turn (Flush a scope named) (reply.Opened n) H in
      let opens : Opens C H G a n (new_order a n named (scope_request C H scope) Flushed) =
      record { order = λ k. refl; opened = λ s t. refl; posted = λ k i. refl; acked = λ k i. refl; collected = λ k i. refl } in
      ap (λ (w : What). unwrap_or (slice_get (put_tickets m a true (after_open (tickets_at m a) w named)) h) (no_tickets h)) (scope_asked C m H st scope (not-false (is_scope C H scope) q.0))
      ∙ opening_after G a n named (scope_request C H scope) Flushed opens v.1 h below
  flush_after a scope named _ d h below = st.tickets h below

  retire_after : (a space : ℕ) (r : Reply) → r ≡ due C H (Retire a space) → (h : ℕ) → h < C.harts → IsAfter (Retire a space) r h
  retire_after a space (reply.Opened n) d h below =
      let p = passed _ NoHart _ (reply.Opened n) (sym d) refl in
      let q = passed _ NoSpace _ (reply.Opened n) p.1 refl in
      let o = passed _ NotHome _ (reply.Opened n) q.1 refl in
      let v = passed _ Retiring _ (reply.Opened n) o.1 refl in
      let u = passed _ InUse _ (reply.Opened n) v.1 refl in
      let inside : a < C.harts = ltb-true a C.harts (not-false (is_hart C a) p.0) in
      let G = with_turn (Retire a space) (reply.Opened n) H in
      let opens : Opens C H G a n (new_order a n (every_hart m) (SpaceOf (asid_of C H space)) Flushed) =
      record {
        order = λ k. ap (λ named. cond (eqb (length H) k) (Some (record { sender = a; ticket = n; named = named; what = SpaceOf (asid_of C H space); cause = Flushed })) (order_at C H k)) (sym (every_named C m H st));
        opened = λ s t. refl;
        posted = λ k i. refl;
        acked = λ k i. refl;
        collected = λ k i. refl;
      } in
      ap (λ (x : ℕ). unwrap_or (slice_get (put_tickets m a true (after_open (tickets_at m a) (SpaceOf x) (every_hart m))) h) (no_tickets h)) (st.spaces space (space_below C m H st space (not-false (is_space C H space) q.0))).asid
      ∙ opening_after G a n (every_hart m) (SpaceOf (asid_of C H space)) Flushed opens
      (ap (λ b. refuse (not b) HomeNotNamed (opened_reply (least_free H a MAX_TICKETS 0))) (own_named C m H st a inside) ∙ u.1) h below
  retire_after a space _ d h below = st.tickets h below

  post_after : (a n to : ℕ) (r : Reply) → r ≡ due C H (Post a n to) → (h : ℕ) → h < C.harts → IsAfter (Post a n to) r h
  post_after a n to r d h below =
      let G = with_turn (Post a n to) r H in
      put_after G a (is_ok r) (after_posted (tickets_at m a) n to) h below
      (λ z _ at.
      let f = post_found C H a n to r d z in
      let o = open_here C H a n f.order st.lawful f.is in
      ap (λ (x : TicketTable). after_posted x n to) at
      ∙ held_changed C H G a n (with_posted to) st.lawful
      (marked_held C H G a n f.order (with_posted to) o f.is f.is o.is (posted_mark C H a n to f.order o.order r z f.is))
      (λ t other. post_others C H a n to r st.lawful a t (λ _ _ q. other (sym q))))
      (λ t quiet. post_others C H a n to r st.lawful h t (λ z q _. quiet z q))

  collect_after : (a n from : ℕ) (r : Reply) → r ≡ due C H (Collect a n from) → (h : ℕ) → h < C.harts → IsAfter (Collect a n from) r h
  collect_after a n from r d h below =
      let G = with_turn (Collect a n from) r H in
      put_after G a (is_progress r) (after_collect (tickets_at m a) n from) h below
      (λ z _ at.
      let f = collect_found C H a n from r d z in
      let o = open_here C H a n f.order st.lawful f.is in
      ap (λ (x : TicketTable). after_collect x n from) at
      ∙ held_changed C H G a n (with_collected from) st.lawful
      (marked_held C H G a n f.order (with_collected from) o f.is f.is o.is (collected_mark C H a n from f.order o.order r z f.is))
      (λ t other. collect_others C H a n from r st.lawful a t (λ _ _ q. other (sym q))))
      (λ t quiet. collect_others C H a n from r st.lawful h t (λ z q _. quiet z q))

  ack_self_after : (a n : ℕ) (r : Reply) → r ≡ due C H (AckSelf a n) → (h : ℕ) → h < C.harts → IsAfter (AckSelf a n) r h
  ack_self_after a n r d h below =
      let G = with_turn (AckSelf a n) r H in
      put_after G a (is_progress r) (acked_by (tickets_at m a) n a) h below
      (λ z inside at.
      let f = self_found C H a n r d z in
      let o = open_here C H a n f.0 st.lawful f.1 in
      ap (λ (x : TicketTable). acked_by x n a) at
      ∙ (own_acked C H a n f.0 (omega (arith, inside, st.within.harts)) o
      ∙ held_changed C H G a n (with_acked a a) st.lawful
      (marked_held C H G a n f.0 (with_acked a a) o f.1 f.1 o.is (own_mark C H a n f.0 o.order r z f.1))
      (λ t other. own_others C H a n r st.lawful a t (λ _ _ q. other (sym q)))))
      (λ t quiet. own_others C H a n r st.lawful h t (λ z q _. quiet z q))

  -- an Ack of what the hart serves
  ack_others : (b : ℕ) (x : Sent) → served C H b ≡ Some x → (s t : ℕ) → (x.sender ≡ s → x.request.ticket ≡ t → ⊥)
      → ticket_of C H s t ≡ ticket_of C (with_turn (Ack b) reply.Ok H) s t
  ack_others b x q s t other =
      ticket_same C H (with_turn (Ack b) reply.Ok H) (open_order H s t) (λ k e.
      let live = served_live C H b x st.lawful q in
      let quiet : is_served (served C H b) k ≡ true → ⊥ = λ i.
      let y = served_is (served C H b) k i in
      let same : y.0 ≡ x = cc (y.1, q) in
      let place : x.order ≡ k = ap (λ (z : Sent). z.order) (sym same) ∙ y.2 in
      let n = one_number C H x.sender x.request.ticket s t k st.lawful (live.is_open ∙ ap Some place) e in other n.0 n.1 in
      record {
        order = refl;
        posted = λ h. refl;
        acked = λ h. mark_off true (eqb b h) (is_served (served C H b) k) (is_acked C H k h) (λ _ i. quiet i);
        collected = λ h. refl;
      })

  ack_with : (b : ℕ) (o : Option Sent) → served C H b ≡ o → reply.Ok ≡ due C H (Ack b) → (h : ℕ) → h < C.harts
      → unwrap_or (slice_get (tickets_after_ack m b true (service_with (has_fenced H b) o)) h) (no_tickets h) ≡ tickets_of C (with_turn (Ack b) reply.Ok H) h
  ack_with b None q d h below =
      let p = passed _ NoHart _ reply.Ok (sym d) refl in
      let s = passed _ NotServing _ reply.Ok p.1 refl in
      absurd (false≢true (sym s.0 ∙ ap is_none q))
  ack_with b (Some x) q d h below =
      let G = with_turn (Ack b) reply.Ok H in
      let a = x.sender in
      let n = x.request.ticket in
      let live = served_live C H b x st.lawful q in
      let post = served_post C H b x st.lawful q in
      put_after G a true (acked_by (tickets_at m a) n b) h below
      (λ _ _ at.
      let o = open_here C H a n x.order st.lawful live.is_open in
      let named : names (tickets_of C H a) n b ≡ true = names_told C H a n x.order b st.lawful live.is_open ∙ post.named in
      let this : is_served (served C H b) x.order ≡ true = ap (λ (z : Option Sent). is_served z x.order) q ∙ eq-eqb x.order x.order refl in
      ap (λ (y : TicketTable). acked_by y n b) at
      ∙ (ap (λ v. cond v (after_acked (tickets_of C H a) n b) (tickets_of C H a)) named
      ∙ held_changed C H G a n (with_acked a b) st.lawful
      (marked_held C H G a n x.order (with_acked a b) o live.is_open live.is_open o.is (acked_mark C H a b x.order o.order reply.Ok refl this (λ e. post.apart (sym e))))
      (λ t other. ack_others b x q a t (λ _ p. other (sym p)))))
      (λ t quiet. ack_others b x q h t (λ p _. quiet refl p))

  ack_after : (b : ℕ) (r : Reply) → r ≡ due C H (Ack b) → (h : ℕ) → h < C.harts → IsAfter (Ack b) r h
  ack_after b reply.Ok d h below =
      let inside : b < C.harts = ltb-true b C.harts (ack_served C H b reply.Ok d refl) in
      ap (λ (x : Option Service). unwrap_or (slice_get (tickets_after_ack m b true x) h) (no_tickets h)) (st.harts b inside).serving
      ∙ ack_with b (served C H b) refl d h below
  ack_after b _ d h below =
      ap (λ (x : List TicketTable). unwrap_or (slice_get x h) (no_tickets h)) (unmoved m b (hart_at m b).serving) ∙ st.tickets h below

  finish_others : (a n : ℕ) (r : Reply) (s t : ℕ) → (is_ok r ≡ true → a ≡ s → n ≡ t → ⊥) → ticket_of C H s t ≡ ticket_of C (with_turn (Finish a n) r H) s t
  finish_others a n r s t other =
      let G = with_turn (Finish a n) r H in
      let quiet : (is_ok r && are_same a n s t) ≡ false = false_from_ne_true (is_ok r && are_same a n s t) (λ e.
      let p = and3 (is_ok r) (eqb a s) (eqb n t) e in other p.0 (eqb-true a s p.1) (eqb-true n t p.2)) in
      ticket_same C H G (open_order H s t) (λ k e. record { order = refl; posted = λ h. refl; acked = λ h. refl; collected = λ h. refl })
      ∙ ap (λ v. ticket_held C G (cond v None (open_order H s t))) (sym quiet)

  finish_after : (a n : ℕ) (r : Reply) → r ≡ due C H (Finish a n) → (h : ℕ) → h < C.harts → IsAfter (Finish a n) r h
  finish_after a n r d h below =
      let G = with_turn (Finish a n) r H in
      put_after G a (is_ok r) (after_finish (tickets_at m a) n) h below
      (λ z _ at.
      let f = finished_is C H a n r d z in
      let done : is_done_at (tickets_of C H a) n ≡ true = done_told C H a n f.0 st.lawful f.1 ∙ f.2 in
      let free : ticket_of C G a n ≡ None = rw (z, same_from a n) refl in
      ap (λ (x : TicketTable). after_finish x n) at
      ∙ (ap (λ v. cond v (with_ticket (tickets_of C H a) n None) (tickets_of C H a)) done
      ∙ held_with C H G a n None free (λ t other. finish_others a n r a t (λ _ _ q. other (sym q)))))
      (λ t quiet. finish_others a n r h t (λ z q _. quiet z q))

  -- the tickets of each hart are those of the longer history
  pub tickets_step : (event : Event) (r : Reply) → r ≡ due C H event → (h : ℕ) → h < C.harts
      → unwrap_or (slice_get (tickets_after m event r) h) (no_tickets h) ≡ tickets_of C (with_turn event r H) h
  tickets_step (Unmap a place page named) r d h below = unmap_after a place page named r d h below
  tickets_step (Protect a place page flags named) r d h below = protect_after a place page flags named r d h below
  tickets_step (Flush a scope named) r d h below = flush_after a scope named r d h below
  tickets_step (Post a n to) r d h below = post_after a n to r d h below
  tickets_step (Ack b) r d h below = ack_after b r d h below
  tickets_step (AckSelf a n) r d h below = ack_self_after a n r d h below
  tickets_step (Collect a n from) r d h below = collect_after a n from r d h below
  tickets_step (Finish a n) r d h below = finish_after a n r d h below
  tickets_step (Retire a space) r d h below = retire_after a space r d h below
  tickets_step _ r d h below = st.tickets h below
