-- What a turn that posts, acknowledges or collects an order leaves of its ticket, and that it
-- leaves the other tickets.
use Rattle.std.proofs.Common.{◌≡◌, ℕ, ◌<◌, Bool, true, false, cond, ◌&&◌, ◌||◌, List, Option, Some, None, slice_set, refl, ap, sym, ◌∙◌, eqb}
use Rattle.std.proofs.lemmas.Bool.{eq-eqb, eqb-true, ne_eqb}
use Rattle.pte.specs.declared.address.What.{What}
use Rattle.shoot.specs.HartSet.{contains, harts_where}
use Rattle.shoot.specs.Tickets.{with_posted, with_acked, with_collected}
use Rattle.pte.specs.declared.TheConstants.{MAX_HARTS}
use Rattle.shoot.specs.declared.tickets.Ticket.{Ticket}
use Rattle.shoot.proofs.HartSets.{by_test, where_with, where_agree, contains_where, passes}
use Rattle.history.specs.Setup.{Setup}
use Rattle.history.specs.Turns.{History, is_ok, is_progress}
use Rattle.history.specs.Orders.{Order, order_at, open_order, is_order}
use Rattle.history.specs.Service.{served, is_served}
use Rattle.history.specs.Acknowledgements.{is_posted, is_acked, is_collected}
use Rattle.history.specs.Due.{Lawful}
use Rattle.history.specs.Runs.{with_turn}
use Rattle.history.specs.declared.event.Event.TheVariants.{Post, Ack, AckSelf, Collect}
use Rattle.history.specs.declared.reply.Reply.{Reply}
use Rattle.history.proofs.Occurred.{is_order_of}
use Rattle.laws.proofs.Orders.{open_known}
use Rattle.laws.proofs.Posts.{order_is}
use Rattle.stepcore.specs.Stands.{ticket_with, ticket_held, ticket_of}
use Rattle.stepcore.proofs.TicketsHeld.{ticket_for}

-- ---- tests

pub mark_on : (a b c old : Bool) → a ≡ true → c ≡ true → (b || old) ≡ ((a && (b && c)) || old)
mark_on true true true old e f = refl
mark_on true false true old e f = refl
mark_on false b c old e f = absurd cc
mark_on true b false old e f = absurd cc

pub mark_off : (a b c old : Bool) → (a ≡ true → c ≡ true → ⊥) → old ≡ ((a && (b && c)) || old)
mark_off false b c old f = refl
mark_off true false c old f = refl
mark_off true true false old f = refl
mark_off true true true old f = absurd (f refl refl)

and_first : (a b : Bool) → (a && b) ≡ true → a ≡ true
and_first true b e = refl
and_first false b e = absurd cc

-- a hart that is put into a set of harts
marked : (f g : ℕ → Bool) (hart : ℕ) → ((n : ℕ) → n < MAX_HARTS → (eqb hart n || f n) ≡ g n) → slice_set (harts_where f) hart true ≡ harts_where g
marked f g hart h = where_with f hart ∙ where_agree (λ n. eqb hart n || f n) g h

-- ---- the ticket that was marked

pub posted_mark : (C : Setup) (H : History) (s t to k : ℕ) (order : Order) (r : Reply) → is_ok r ≡ true → open_order H s t ≡ Some k
    → with_posted to (ticket_for C H k order) ≡ ticket_for C (with_turn (Post s t to) r H) k order
posted_mark C H s t to k order r z e =
    let G = with_turn (Post s t to) r H in
    let posted : slice_set (harts_where (is_posted H k)) to true ≡ harts_where (is_posted G k) =
    marked (is_posted H k) (is_posted G k) to (λ n below. mark_on (is_ok r) (eqb to n) (is_order (open_order H s t) k) (is_posted H k n) z (is_order_of (open_order H s t) k e)) in
    ap (λ (set : List Bool). record (ticket_for C H k order) { posted = set }) posted

with_both : (ticket : Ticket) (acked acked' collected collected' : List Bool) → acked ≡ acked' → collected ≡ collected'
    → record ticket { acked = acked; collected = collected } ≡ record ticket { acked = acked'; collected = collected' }
with_both ticket acked acked' collected collected' a c = cc

pub own_mark : (C : Setup) (H : History) (s t k : ℕ) (order : Order) (r : Reply) → is_progress r ≡ true → open_order H s t ≡ Some k
    → with_acked s s (ticket_for C H k order) ≡ ticket_for C (with_turn (AckSelf s t) r H) k order
own_mark C H s t k order r z e =
    let G = with_turn (AckSelf s t) r H in
    let this = is_order_of (open_order H s t) k e in
    let acked : slice_set (harts_where (is_acked C H k)) s true ≡ harts_where (is_acked C G k) =
    marked (is_acked C H k) (is_acked C G k) s (λ n below. mark_on (is_progress r) (eqb s n) (is_order (open_order H s t) k) (is_acked C H k n) z this) in
    let collected : slice_set (harts_where (is_collected C H k)) s true ≡ harts_where (is_collected C G k) =
    marked (is_collected C H k) (is_collected C G k) s (λ n below. mark_on (is_progress r) (eqb s n) (is_order (open_order H s t) k) (is_collected C H k n) z this) in
    rw (eq-eqb s s refl) (with_both (ticket_for C H k order) _ _ _ _ acked collected)

pub acked_mark : (C : Setup) (H : History) (s b k : ℕ) (order : Order) (r : Reply) → is_ok r ≡ true → is_served (served C H b) k ≡ true → (b ≡ s → ⊥)
    → with_acked s b (ticket_for C H k order) ≡ ticket_for C (with_turn (Ack b) r H) k order
acked_mark C H s b k order r z e apart =
    let G = with_turn (Ack b) r H in
    let acked : slice_set (harts_where (is_acked C H k)) b true ≡ harts_where (is_acked C G k) =
    marked (is_acked C H k) (is_acked C G k) b (λ n below. mark_on (is_ok r) (eqb b n) (is_served (served C H b) k) (is_acked C H k n) z e) in
    rw (ne_eqb b s apart) (ap (λ (set : List Bool). record (ticket_for C H k order) { acked = set }) acked)

-- the acknowledgement of a hart, once it is looked for
collect_there : (from n : ℕ) (a c old : Bool) (acked : ℕ → Bool) → a ≡ true → c ≡ true → acked from ≡ true
    → (eqb from n || old) ≡ ((a && (eqb from n && (c && acked n))) || old)
collect_there from n a c old acked z e there =
    rw (z, e) (by_test (λ v. (v || old) ≡ ((v && acked n) || old)) (eqb from n)
    (λ t. rw (ap acked (sym (eqb-true from n t)) ∙ there) refl)
    (λ _. refl))

collect_absent : (from n : ℕ) (a c old : Bool) (acked : ℕ → Bool) → (from ≡ n → acked n ≡ false) → old ≡ ((a && (eqb from n && (c && acked n))) || old)
collect_absent from n a c old acked absent =
    by_test (λ v. old ≡ ((a && (v && (c && acked n))) || old)) (eqb from n)
    (λ t. rw (absent (eqb-true from n t)) (nothing a c old)) (λ _. nothing_here a old)
  where
    nothing : (a c old : Bool) → old ≡ ((a && (true && (c && false))) || old)
    nothing true true old = refl
    nothing true false old = refl
    nothing false c old = refl

    nothing_here : (a old : Bool) → old ≡ ((a && false) || old)
    nothing_here true old = refl
    nothing_here false old = refl

pub collected_mark : (C : Setup) (H : History) (s t from k : ℕ) (order : Order) (r : Reply) → is_progress r ≡ true → open_order H s t ≡ Some k
    → with_collected from (ticket_for C H k order) ≡ ticket_for C (with_turn (Collect s t from) r H) k order
collected_mark C H s t from k order r z e =
    let G = with_turn (Collect s t from) r H in
    let this = is_order_of (open_order H s t) k e in
    let collected : cond (contains (harts_where (is_acked C H k)) from) (slice_set (harts_where (is_collected C H k)) from true) (harts_where (is_collected C H k)) ≡ harts_where (is_collected C G k) =
    by_test (λ v. cond v (slice_set (harts_where (is_collected C H k)) from true) (harts_where (is_collected C H k)) ≡ harts_where (is_collected C G k)) (contains (harts_where (is_acked C H k)) from)
    (λ there. marked (is_collected C H k) (is_collected C G k) from (λ n below. collect_there from n (is_progress r) (is_order (open_order H s t) k) (is_collected C H k n) (is_acked C H k) z this (passes (is_acked C H k) from there)))
    (λ absent. where_agree (is_collected C H k) (is_collected C G k) (λ n below. collect_absent from n (is_progress r) (is_order (open_order H s t) k) (is_collected C H k n) (is_acked C H k)
    (λ same. sym (contains_where (is_acked C H k) n below) ∙ (ap (contains (harts_where (is_acked C H k))) (sym same) ∙ absent)))) in
    ap (λ (set : List Bool). record (ticket_for C H k order) { collected = set }) collected

-- ---- the tickets of other orders

-- what two histories say of an order is the same
pub record SameOrder (C : Setup) (H G : History) (k : ℕ) : Type 0 where
  pub order : order_at C H k ≡ order_at C G k
  pub posted : (h : ℕ) → is_posted H k h ≡ is_posted G k h
  pub acked : (h : ℕ) → is_acked C H k h ≡ is_acked C G k h
  pub collected : (h : ℕ) → is_collected C H k h ≡ is_collected C G k h

abbrev pub ticket_made : What → List Bool → List Bool → List Bool → List Bool → Option Ticket
ticket_made what named posted acked collected = Some (record { what = what; named = named; posted = posted; acked = acked; collected = collected })

pub ticket_parts : (what : What) (named p p' a a' c c' : List Bool) → p ≡ p' → a ≡ a' → c ≡ c' → ticket_made what named p a c ≡ ticket_made what named p' a' c'
ticket_parts what named p p' a a' c c' e f g = cc

same_with : (C : Setup) (H G : History) (k : ℕ) (o : Option Order) → SameOrder C H G k → ticket_with C H k o ≡ ticket_with C G k o
same_with C H G k None same = refl
same_with C H G k (Some order) same =
    ticket_parts order.what order.named _ _ _ _ _ _
    (where_agree (is_posted H k) (is_posted G k) (λ n _. same.posted n))
    (where_agree (is_acked C H k) (is_acked C G k) (λ n _. same.acked n))
    (where_agree (is_collected C H k) (is_collected C G k) (λ n _. same.collected n))

pub ticket_same : (C : Setup) (H G : History) (o : Option ℕ) → ((k : ℕ) → o ≡ Some k → SameOrder C H G k) → ticket_held C H o ≡ ticket_held C G o
ticket_same C H G None f = refl
ticket_same C H G (Some k) f = let same = f k refl in same_with C H G k (order_at C H k) same ∙ ap (ticket_with C G k) same.order

-- an order is open under one number of one hart
pub one_number : (C : Setup) (H : History) (a n s t k : ℕ) → Lawful C H → open_order H a n ≡ Some k → open_order H s t ≡ Some k → (a ≡ s) × (n ≡ t)
one_number C H a n s t k l e f =
    let o = open_known C H a n k l e in
    let w = open_known C H s t k l f in
    let same : o.order ≡ w.order = cc (o.is, w.is) in (
      sym o.sender ∙ (ap (λ (x : Order). x.sender) same ∙ w.sender),
      sym o.ticket ∙ (ap (λ (x : Order). x.ticket) same ∙ w.ticket),
    )

pub post_others : (C : Setup) (H : History) (a n to : ℕ) (r : Reply) → Lawful C H → (s t : ℕ) → (is_ok r ≡ true → a ≡ s → n ≡ t → ⊥)
    → ticket_of C H s t ≡ ticket_of C (with_turn (Post a n to) r H) s t
post_others C H a n to r l s t other =
    ticket_same C H (with_turn (Post a n to) r H) (open_order H s t) (λ k e.
    let quiet : is_ok r ≡ true → is_order (open_order H a n) k ≡ true → ⊥ = λ z f. let q = one_number C H a n s t k l (order_is (open_order H a n) k f) e in other z q.0 q.1 in
    record {
      order = refl;
      posted = λ h. mark_off (is_ok r) (eqb to h) (is_order (open_order H a n) k) (is_posted H k h) quiet;
      acked = λ h. refl;
      collected = λ h. refl;
    })

pub own_others : (C : Setup) (H : History) (a n : ℕ) (r : Reply) → Lawful C H → (s t : ℕ) → (is_progress r ≡ true → a ≡ s → n ≡ t → ⊥)
    → ticket_of C H s t ≡ ticket_of C (with_turn (AckSelf a n) r H) s t
own_others C H a n r l s t other =
    ticket_same C H (with_turn (AckSelf a n) r H) (open_order H s t) (λ k e.
    let quiet : is_progress r ≡ true → is_order (open_order H a n) k ≡ true → ⊥ = λ z f. let q = one_number C H a n s t k l (order_is (open_order H a n) k f) e in other z q.0 q.1 in
    record {
      order = refl;
      posted = λ h. refl;
      acked = λ h. mark_off (is_progress r) (eqb a h) (is_order (open_order H a n) k) (is_acked C H k h) quiet;
      collected = λ h. mark_off (is_progress r) (eqb a h) (is_order (open_order H a n) k) (is_collected C H k h) quiet;
    })

pub collect_others : (C : Setup) (H : History) (a n from : ℕ) (r : Reply) → Lawful C H → (s t : ℕ) → (is_progress r ≡ true → a ≡ s → n ≡ t → ⊥)
    → ticket_of C H s t ≡ ticket_of C (with_turn (Collect a n from) r H) s t
collect_others C H a n from r l s t other =
    ticket_same C H (with_turn (Collect a n from) r H) (open_order H s t) (λ k e.
    let quiet : (h : ℕ) → is_progress r ≡ true → (is_order (open_order H a n) k && is_acked C H k h) ≡ true → ⊥ =
    λ h z f. let q = one_number C H a n s t k l (order_is (open_order H a n) k (and_first (is_order (open_order H a n) k) (is_acked C H k h) f)) e in other z q.0 q.1 in
    record {
      order = refl;
      posted = λ h. refl;
      acked = λ h. refl;
      collected = λ h. mark_off (is_progress r) (eqb from h) (is_order (open_order H a n) k && is_acked C H k h) (is_collected C H k h) (quiet h);
    })
