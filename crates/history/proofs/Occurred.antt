-- What is marked once something happened: posted, acknowledged, collected, mapped anew, superseded,
-- closed.
use Rattle.std.proofs.Common.{◌≡◌, ℕ, Bool, true, false, ◌&&◌, ◌||◌, ◌⊎◌, inl, inr, Option, Some, None, refl, ap, sym, ◌∙◌, eqb}
use Rattle.std.proofs.lemmas.Bool.{or_cases, and_parts, eqb-true, eq-eqb, false≢true}
use Rattle.std.specs.Prelude.{◌↔◌, is_none}
use Rattle.pte.specs.Address.{Span}
use Rattle.tlb.specs.Service.{overlaps}
use Rattle.history.specs.Setup.{Setup}
use Rattle.history.specs.declared.event.Event.{Event}
use Rattle.history.specs.declared.event.Event.TheVariants.{Map, Unmap, Protect, Post, Ack, AckSelf, Collect, Close}
use Rattle.history.specs.declared.reply.Reply.{Reply}
use Rattle.history.specs.declared.reply.Reply.TheVariants.{Leaf, Opened, Ok, Done, Waiting}
use Rattle.history.specs.Turns.{Turn, History, is_ok, is_progress, is_leaf, is_opened, are_same}
use Rattle.history.specs.Spaces.{asid_in}
use Rattle.history.specs.Orders.{Order, Cause, Unmapped, Protected, Flushed, open_order, is_order, order_at}
use Rattle.history.specs.Mailboxes.{Sent, is_closed, closed_after}
use Rattle.history.specs.Service.{served, is_served}
use Rattle.history.specs.Acknowledgements.{is_posted, posted_after, is_acked, acked_after, is_collected, collected_after}
use Rattle.history.specs.Staleness.{IsChange, is_same_asid, is_over, is_over_order, is_mapped_anew, anew_after, is_superseded, superseded_after}
use Rattle.history.specs.Occurrences.{Sometime, IsPost, IsProgress, IsAckSelf, Acknowledges, Collects, IsOfPage, IsMapOver, Supersedes, IsClose}
use Rattle.history.proofs.Splits.{read_sometime}

-- what the tests of replies, options and places say
pub ok_is : (r : Reply) → is_ok r ≡ true → r ≡ Ok
ok_is Ok e = refl
ok_is _ e = absurd (false≢true e)

pub progress_is : (r : Reply) → is_progress r ≡ true → IsProgress r
progress_is Done e = inl refl
progress_is (Waiting left) e = inr (left, refl)
progress_is _ e = absurd (false≢true e)

pub progress_from : (r : Reply) → IsProgress r → is_progress r ≡ true
progress_from r p = elim p [ inl d ↦ ap is_progress d | inr w ↦ ap is_progress w.1 ]

pub leaf_is : (r : Reply) → is_leaf r ≡ true → r ≡ Leaf
leaf_is Leaf e = refl
leaf_is _ e = absurd (false≢true e)

pub opened_is : (r : Reply) → is_opened r ≡ true → (ticket : ℕ) × (r ≡ Opened ticket)
opened_is (Opened ticket) e = (ticket, refl)
opened_is _ e = absurd (false≢true e)

pub none_by : {A : Type 0} (o : Option A) → is_none o ≡ true → o ≡ None
none_by None e = refl
none_by (Some x) e = absurd cc

pub order_is : (o : Option ℕ) (k : ℕ) → is_order o k ≡ true → o ≡ Some k
order_is None k e = absurd (false≢true e)
order_is (Some n) k e = ap Some (eqb-true n k e)

pub is_order_of : (o : Option ℕ) (k : ℕ) → o ≡ Some k → is_order o k ≡ true
is_order_of o k e = rw e (eq-eqb k k refl)

pub served_is : (o : Option Sent) (k : ℕ) → is_served o k ≡ true → (sent : Sent) × (o ≡ Some sent) × (sent.order ≡ k)
served_is None k e = absurd (false≢true e)
served_is (Some sent) k e = (sent, refl, eqb-true sent.order k e)

pub and3 : (a b c : Bool) → (a && (b && c)) ≡ true → (a ≡ true) × (b ≡ true) × (c ≡ true)
and3 true true true e = (refl, refl, refl)
and3 true true false e = absurd (false≢true e)
and3 true false c e = absurd (false≢true e)
and3 false b c e = absurd (false≢true e)

pub and4 : (a b c d : Bool) → (a && (b && (c && d))) ≡ true → (a ≡ true) × (b ≡ true) × (c ≡ true) × (d ≡ true)
and4 true true true true e = (refl, refl, refl, refl)
and4 true true true false e = absurd (false≢true e)
and4 true true false d e = absurd (false≢true e)
and4 true false c d e = absurd (false≢true e)
and4 false b c d e = absurd (false≢true e)

pub all3 : (a b c old : Bool) → a ≡ true → b ≡ true → c ≡ true → ((a && (b && c)) || old) ≡ true
all3 a b c old p q r = rw (p, q, r) refl

pub all4 : (a b c d old : Bool) → a ≡ true → b ≡ true → c ≡ true → d ≡ true → ((a && (b && (c && d))) || old) ≡ true
all4 a b c d old p q r s = rw (p, q, r, s) refl

pub same_from : (a b : ℕ) → are_same a b a b ≡ true
same_from a b = rw (eq-eqb a a refl, eq-eqb b b refl) refl

abbrev pub turn_of : Event → Reply → Turn
turn_of e r = record { event = e; reply = r }

-- a mark stays
old_or : (t old : Bool) → old ≡ true → (t || old) ≡ true
old_or true old e = refl
old_or false old e = e

-- posted
posted_to : (e : Event) (r : Reply) (H : History) (k h : ℕ) (old : Bool) → posted_after e r H k h old ≡ true → IsPost k h (turn_of e r) H ⊎ (old ≡ true)
posted_to (Post hart ticket to) r H k h old e =
    elim (or_cases (is_ok r && ((eqb to h) && is_order (open_order H hart ticket) k)) old e) [
      | inl n ↦ let p = and3 (is_ok r) (eqb to h) (is_order (open_order H hart ticket) k) n in
          inl (record {
            sender = hart;
            ticket = ticket;
            event = ap (Post hart ticket) (eqb-true to h p.1);
            accepted = ok_is r p.0;
            order = order_is (open_order H hart ticket) k p.2;
          })
      | inr o ↦ inr o
    ]
posted_to _ r H k h old e = inr e

posted_stays : (e : Event) (r : Reply) (H : History) (k h : ℕ) (old : Bool) → old ≡ true → posted_after e r H k h old ≡ true
posted_stays (Post hart ticket to) r H k h old e = old_or _ old e
posted_stays _ r H k h old e = e

posted_by : (turn : Turn) (H : History) (k h : ℕ) (old : Bool) → IsPost k h turn H → posted_after turn.event turn.reply H k h old ≡ true
posted_by turn H k h old p = rw (p.event, p.accepted) (all3 _ _ _ old refl (eq-eqb h h refl) (is_order_of (open_order H p.sender p.ticket) k p.order))

pub posted : (H : History) (k h : ℕ) → (is_posted H k h ≡ true) ↔ Sometime (IsPost k h) H
posted H k h = read_sometime (IsPost k h) (λ H. is_posted H k h ≡ true) (λ e. false≢true e)
    (λ turn H. (
      posted_to turn.event turn.reply H k h (is_posted H k h),
      λ c. elim c [ inl p ↦ posted_by turn H k h (is_posted H k h) p | inr o ↦ posted_stays turn.event turn.reply H k h (is_posted H k h) o ],
    )) H

-- an own acknowledgement
self_to : (hart ticket : ℕ) (r : Reply) (H : History) (k h : ℕ) → (is_progress r && ((eqb hart h) && is_order (open_order H hart ticket) k)) ≡ true → IsAckSelf k h (turn_of (AckSelf hart ticket) r) H
self_to hart ticket r H k h n =
    let p = and3 (is_progress r) (eqb hart h) (is_order (open_order H hart ticket) k) n in
    let same : hart ≡ h = eqb-true hart h p.1 in
    record {
      ticket = ticket;
      event = ap (λ s. AckSelf s ticket) same;
      accepted = progress_is r p.0;
      order = ap (λ s. open_order H s ticket) (sym same) ∙ order_is (open_order H hart ticket) k p.2;
    }

-- acknowledged
acked_to : (C : Setup) (e : Event) (r : Reply) (H : History) (k h : ℕ) (old : Bool) → acked_after C e r H k h old ≡ true → Acknowledges C k h (turn_of e r) H ⊎ (old ≡ true)
acked_to C (Ack hart) r H k h old e =
    elim (or_cases (is_ok r && ((eqb hart h) && is_served (served C H hart) k)) old e) [
      | inl n ↦ let p = and3 (is_ok r) (eqb hart h) (is_served (served C H hart) k) n in
          let same : hart ≡ h = eqb-true hart h p.1 in
          let s = served_is (served C H hart) k p.2 in
          inl (inl (record { sent = s.0; event = ap Ack same; accepted = ok_is r p.0; serving = ap (served C H) (sym same) ∙ s.1; order = s.2 }))
      | inr o ↦ inr o
    ]
acked_to C (AckSelf hart ticket) r H k h old e =
    elim (or_cases (is_progress r && ((eqb hart h) && is_order (open_order H hart ticket) k)) old e) [
      | inl n ↦ inl (inr (self_to hart ticket r H k h n))
      | inr o ↦ inr o
    ]
acked_to C _ r H k h old e = inr e

acked_stays : (C : Setup) (e : Event) (r : Reply) (H : History) (k h : ℕ) (old : Bool) → old ≡ true → acked_after C e r H k h old ≡ true
acked_stays C (Ack hart) r H k h old e = old_or _ old e
acked_stays C (AckSelf hart ticket) r H k h old e = old_or _ old e
acked_stays C _ r H k h old e = e

acked_by : (C : Setup) (turn : Turn) (H : History) (k h : ℕ) (old : Bool) → Acknowledges C k h turn H → acked_after C turn.event turn.reply H k h old ≡ true
acked_by C turn H k h old a = elim a [
  | inl p ↦ rw (p.event, p.accepted) (all3 _ _ _ old refl (eq-eqb h h refl) (rw p.serving (eq-eqb p.sent.order k p.order)))
  | inr p ↦ rw p.event (all3 _ _ _ old (progress_from turn.reply p.accepted) (eq-eqb h h refl) (is_order_of (open_order H h p.ticket) k p.order))
]

pub acked : (C : Setup) (H : History) (k h : ℕ) → (is_acked C H k h ≡ true) ↔ Sometime (Acknowledges C k h) H
acked C H k h = read_sometime (Acknowledges C k h) (λ H. is_acked C H k h ≡ true) (λ e. false≢true e)
    (λ turn H. (
      acked_to C turn.event turn.reply H k h (is_acked C H k h),
      λ c. elim c [ inl p ↦ acked_by C turn H k h (is_acked C H k h) p | inr o ↦ acked_stays C turn.event turn.reply H k h (is_acked C H k h) o ],
    )) H

-- collected
collected_to : (C : Setup) (e : Event) (r : Reply) (H : History) (k h : ℕ) (old : Bool) → collected_after C e r H k h old ≡ true → Collects C k h (turn_of e r) H ⊎ (old ≡ true)
collected_to C (AckSelf hart ticket) r H k h old e =
    elim (or_cases (is_progress r && ((eqb hart h) && is_order (open_order H hart ticket) k)) old e) [
      | inl n ↦ inl (inr (self_to hart ticket r H k h n))
      | inr o ↦ inr o
    ]
collected_to C (Collect hart ticket from) r H k h old e =
    elim (or_cases (is_progress r && ((eqb from h) && (is_order (open_order H hart ticket) k && is_acked C H k h))) old e) [
      | inl n ↦ let p = and4 (is_progress r) (eqb from h) (is_order (open_order H hart ticket) k) (is_acked C H k h) n in
          inl (inl (record {
            sender = hart;
            ticket = ticket;
            event = ap (Collect hart ticket) (eqb-true from h p.1);
            accepted = progress_is r p.0;
            order = order_is (open_order H hart ticket) k p.2;
            acked = p.3;
          }))
      | inr o ↦ inr o
    ]
collected_to C _ r H k h old e = inr e

pub collected_stays : (C : Setup) (e : Event) (r : Reply) (H : History) (k h : ℕ) (old : Bool) → old ≡ true → collected_after C e r H k h old ≡ true
collected_stays C (AckSelf hart ticket) r H k h old e = old_or _ old e
collected_stays C (Collect hart ticket from) r H k h old e = old_or _ old e
collected_stays C _ r H k h old e = e

collected_by : (C : Setup) (turn : Turn) (H : History) (k h : ℕ) (old : Bool) → Collects C k h turn H → collected_after C turn.event turn.reply H k h old ≡ true
collected_by C turn H k h old a = elim a [
  | inl p ↦ rw p.event (all4 _ _ _ _ old (progress_from turn.reply p.accepted) (eq-eqb h h refl) (is_order_of (open_order H p.sender p.ticket) k p.order) p.acked)
  | inr p ↦ rw p.event (all3 _ _ _ old (progress_from turn.reply p.accepted) (eq-eqb h h refl) (is_order_of (open_order H h p.ticket) k p.order))
]

pub collected : (C : Setup) (H : History) (k h : ℕ) → (is_collected C H k h ≡ true) ↔ Sometime (Collects C k h) H
collected C H k h = read_sometime (Collects C k h) (λ H. is_collected C H k h ≡ true) (λ e. false≢true e)
    (λ turn H. (
      collected_to C turn.event turn.reply H k h (is_collected C H k h),
      λ c. elim c [ inl p ↦ collected_by C turn H k h (is_collected C H k h) p | inr o ↦ collected_stays C turn.event turn.reply H k h (is_collected C H k h) o ],
    )) H

-- closed
closed_to : (e : Event) (r : Reply) (H : History) (s h : ℕ) (old : Bool) → closed_after e r s h old ≡ true → IsClose s h (turn_of e r) H ⊎ (old ≡ true)
closed_to (Close hart to) r H s h old e =
    elim (or_cases (is_ok r && are_same hart to s h) old e) [
      | inl n ↦ let p = and3 (is_ok r) (eqb hart s) (eqb to h) n in
          let sender : hart ≡ s = eqb-true hart s p.1 in
          let receiver : to ≡ h = eqb-true to h p.2 in
          inl (record { event = ap (λ a. Close a to) sender ∙ ap (Close s) receiver; accepted = ok_is r p.0 })
      | inr o ↦ inr o
    ]
closed_to _ r H s h old e = inr e

closed_stays : (e : Event) (r : Reply) (s h : ℕ) (old : Bool) → old ≡ true → closed_after e r s h old ≡ true
closed_stays (Close hart to) r s h old e = old_or _ old e
closed_stays _ r s h old e = e

closed_by : (turn : Turn) (H : History) (s h : ℕ) (old : Bool) → IsClose s h turn H → closed_after turn.event turn.reply s h old ≡ true
closed_by turn H s h old p = rw (p.event, p.accepted, same_from s h) refl

pub closed : (H : History) (sender receiver : ℕ) → (is_closed H sender receiver ≡ true) ↔ Sometime (IsClose sender receiver) H
closed H s h = read_sometime (IsClose s h) (λ H. is_closed H s h ≡ true) (λ e. false≢true e)
    (λ turn H. (
      closed_to turn.event turn.reply H s h (is_closed H s h),
      λ c. elim c [ inl p ↦ closed_by turn H s h (is_closed H s h) p | inr o ↦ closed_stays turn.event turn.reply s h (is_closed H s h) o ],
    )) H

-- the page of an order
asid_is : (a b : Option ℕ) → is_same_asid a b ≡ true → a ≡ b
asid_is (Some s) (Some t) e = ap Some (eqb-true s t e)
asid_is (Some s) None e = absurd (false≢true e)
asid_is None (Some t) e = absurd (false≢true e)
asid_is None None e = refl

asid_same : (a : Option ℕ) → is_same_asid a a ≡ true
asid_same (Some s) = eq-eqb s s refl
asid_same None = refl

over_is : (cause : Cause) (of : Option ℕ) (page : Span) → is_over cause of page ≡ true → (changed : Span) × IsChange cause of changed × (overlaps changed page ≡ true)
over_is (Unmapped other changed) of page e =
    let p = and_parts (is_same_asid other of) (overlaps changed page) e in
    (changed, inl (ap (λ x. Unmapped x changed) (asid_is other of p.0)), p.1)
over_is (Protected other changed) of page e =
    let p = and_parts (is_same_asid other of) (overlaps changed page) e in
    (changed, inr (ap (λ x. Protected x changed) (asid_is other of p.0)), p.1)
over_is Flushed of page e = absurd (false≢true e)

over_from : (cause : Cause) (of : Option ℕ) (page changed : Span) → IsChange cause of changed → overlaps changed page ≡ true → is_over cause of page ≡ true
over_from cause of page changed c o = elim c [ inl u ↦ rw (u, asid_same of) o | inr p ↦ rw (p, asid_same of) o ]

page_at : (C : Setup) (k : ℕ) (of : Option ℕ) (page : Span) (H : History) (o : Option Order) → order_at C H k ≡ o → is_over_order o of page ≡ true → IsOfPage C k of page H
page_at C k of page H None q e = absurd (false≢true e)
page_at C k of page H (Some order) q e =
    let p = over_is order.cause of page e in
    record { order = order; changed = p.0; is = q; cause = p.1; over = p.2 }

page_is : (C : Setup) (k : ℕ) (of : Option ℕ) (page : Span) (H : History) → is_over_order (order_at C H k) of page ≡ true → IsOfPage C k of page H
page_is C k of page H e = page_at C k of page H (order_at C H k) refl e

page_from : (C : Setup) (k : ℕ) (of : Option ℕ) (page : Span) (H : History) → IsOfPage C k of page H → is_over_order (order_at C H k) of page ≡ true
page_from C k of page H p = rw p.is (over_from p.order.cause of page p.changed p.cause p.over)

-- mapped anew
anew_to : (C : Setup) (e : Event) (r : Reply) (H : History) (k : ℕ) (old : Bool) → anew_after C e r H k old ≡ true → IsMapOver C k (turn_of e r) H ⊎ (old ≡ true)
anew_to C (Map hart place page ppn flags) r H k old e =
    elim (or_cases (is_leaf r && is_over_order (order_at C H k) (asid_in C H place) page) old e) [
      | inl n ↦ let p = and_parts (is_leaf r) (is_over_order (order_at C H k) (asid_in C H place) page) n in
          inl (record {
            hart = hart;
            place = place;
            page = page;
            ppn = ppn;
            flags = flags;
            event = refl;
            stored = leaf_is r p.0;
            of_page = page_is C k (asid_in C H place) page H p.1;
          })
      | inr o ↦ inr o
    ]
anew_to C _ r H k old e = inr e

anew_stays : (C : Setup) (e : Event) (r : Reply) (H : History) (k : ℕ) (old : Bool) → old ≡ true → anew_after C e r H k old ≡ true
anew_stays C (Map hart place page ppn flags) r H k old e = old_or _ old e
anew_stays C _ r H k old e = e

anew_by : (C : Setup) (turn : Turn) (H : History) (k : ℕ) (old : Bool) → IsMapOver C k turn H → anew_after C turn.event turn.reply H k old ≡ true
anew_by C turn H k old p = rw (p.event, p.stored, page_from C k (asid_in C H p.place) p.page H p.of_page) refl

pub mapped_anew : (C : Setup) (H : History) (k : ℕ) → (is_mapped_anew C H k ≡ true) ↔ Sometime (IsMapOver C k) H
mapped_anew C H k = read_sometime (IsMapOver C k) (λ H. is_mapped_anew C H k ≡ true) (λ e. false≢true e)
    (λ turn H. (
      anew_to C turn.event turn.reply H k (is_mapped_anew C H k),
      λ c. elim c [ inl p ↦ anew_by C turn H k (is_mapped_anew C H k) p | inr o ↦ anew_stays C turn.event turn.reply H k (is_mapped_anew C H k) o ],
    )) H

-- superseded
superseded_to : (C : Setup) (e : Event) (r : Reply) (H : History) (k : ℕ) (old : Bool) → superseded_after C e r H k old ≡ true → Supersedes C k (turn_of e r) H ⊎ (old ≡ true)
superseded_to C (Unmap hart place page named) r H k old e =
    elim (or_cases (is_opened r && is_over_order (order_at C H k) (asid_in C H place) page) old e) [
      | inl n ↦ let p = and_parts (is_opened r) (is_over_order (order_at C H k) (asid_in C H place) page) n in
          let o = opened_is r p.0 in
          inl (inl (record {
            hart = hart;
            place = place;
            page = page;
            named = named;
            ticket = o.0;
            event = refl;
            accepted = o.1;
            of_page = page_is C k (asid_in C H place) page H p.1;
          }))
      | inr o ↦ inr o
    ]
superseded_to C (Protect hart place page flags named) r H k old e =
    elim (or_cases (is_opened r && is_over_order (order_at C H k) (asid_in C H place) page) old e) [
      | inl n ↦ let p = and_parts (is_opened r) (is_over_order (order_at C H k) (asid_in C H place) page) n in
          let o = opened_is r p.0 in
          inl (inr (record {
            hart = hart;
            place = place;
            page = page;
            flags = flags;
            named = named;
            ticket = o.0;
            event = refl;
            accepted = o.1;
            of_page = page_is C k (asid_in C H place) page H p.1;
          }))
      | inr o ↦ inr o
    ]
superseded_to C _ r H k old e = inr e

superseded_stays : (C : Setup) (e : Event) (r : Reply) (H : History) (k : ℕ) (old : Bool) → old ≡ true → superseded_after C e r H k old ≡ true
superseded_stays C (Unmap hart place page named) r H k old e = old_or _ old e
superseded_stays C (Protect hart place page flags named) r H k old e = old_or _ old e
superseded_stays C _ r H k old e = e

superseded_by : (C : Setup) (turn : Turn) (H : History) (k : ℕ) (old : Bool) → Supersedes C k turn H → superseded_after C turn.event turn.reply H k old ≡ true
superseded_by C turn H k old s = elim s [
  | inl p ↦ rw (p.event, p.accepted, page_from C k (asid_in C H p.place) p.page H p.of_page) refl
  | inr p ↦ rw (p.event, p.accepted, page_from C k (asid_in C H p.place) p.page H p.of_page) refl
]

pub superseded : (C : Setup) (H : History) (k : ℕ) → (is_superseded C H k ≡ true) ↔ Sometime (Supersedes C k) H
superseded C H k = read_sometime (Supersedes C k) (λ H. is_superseded C H k ≡ true) (λ e. false≢true e)
    (λ turn H. (
      superseded_to C turn.event turn.reply H k (is_superseded C H k),
      λ c. elim c [ inl p ↦ superseded_by C turn H k (is_superseded C H k) p | inr o ↦ superseded_stays C turn.event turn.reply H k (is_superseded C H k) o ],
    )) H
