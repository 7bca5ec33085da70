-- The order at a place, and the open order under a ticket.
use Rattle.std.proofs.Common.{◌≡◌, ℕ, ◌<◌, Bool, true, false, cond, ◌&&◌, ◌⊎◌, inl, inr, [], ◌∷◌, length, Option, Some, None, refl, ap, sym, ◌∙◌, eqb, arith}
use Rattle.std.proofs.lemmas.Bool.{and_parts, eqb-true, eq-eqb, cond-true, ne_eqb, false≢true, true≢false}
use Rattle.std.specs.Prelude.{◌↔◌}
use Rattle.shoot.proofs.HartSets.{by_test}
use Rattle.history.specs.Setup.{Setup}
use Rattle.history.specs.declared.event.Event.{Event}
use Rattle.history.specs.declared.event.Event.TheVariants.{Unmap, Protect, Flush, Retire, Finish}
use Rattle.history.specs.declared.reply.Reply.{Reply}
use Rattle.history.specs.declared.reply.Reply.TheVariants.{Opened, Ok}
use Rattle.history.specs.Turns.{History, is_ok, opened_ticket, are_same}
use Rattle.history.specs.Orders.{Order, order_or, opened_order, order_at, held_after, open_after, open_order}
use Rattle.history.specs.Occurrences.{Sometime, Since, OpensAt, IsOrderBy, OpensOrder, OpensOrFinishes}
use Rattle.history.proofs.Splits.{read_sometime, read_since}
use Rattle.history.proofs.Occurred.{turn_of, ok_is, same_from, and3}

-- the order at a place is the new one, at the number of turns so far, or the old one
pub order_cases : (o : Option Order) (place k : ℕ) (old : Option Order) (order : Order) → order_or o place k old ≡ Some order
    → ((place ≡ k) × (o ≡ Some order)) ⊎ (old ≡ Some order)
order_cases None place k old order e = inr e
order_cases (Some new) place k old order e =
    by_test (λ t. cond t (Some new) old ≡ Some order → ((place ≡ k) × (Some new ≡ Some order)) ⊎ (old ≡ Some order)) (eqb place k)
    (λ t e. inl (eqb-true place k t, e)) (λ _ e. inr e) e

pub order_below : (C : Setup) (H : History) (k : ℕ) (order : Order) → order_at C H k ≡ Some order → k < length H
order_below C [] k order e = absurd cc
order_below C (turn ∷ H) k order e = elim (order_cases (opened_order C turn.event turn.reply H) (length H) k (order_at C H k) order e) [
  | inl n ↦ let at : length H ≡ k = n.0 in omega arith
  | inr old ↦ let l = order_below C H k order old in omega arith
]

pub order_stays : (o : Option Order) (place k : ℕ) (old : Option Order) → k < place → order_or o place k old ≡ old
order_stays None place k old l = refl
order_stays (Some new) place k old l = let e = ne_eqb place k (λ q. omega arith) in rw e refl

order_new : (o : Option Order) (place k : ℕ) (old : Option Order) (order : Order) → place ≡ k → o ≡ Some order → order_or o place k old ≡ Some order
order_new o place k old order at is = rw (is, at, eq-eqb k k refl) refl

pub placed : (C : Setup) (H : History) (k : ℕ) (order : Order) → (order_at C H k ≡ Some order) ↔ Sometime (OpensAt C k order) H
placed C H k order = read_sometime (OpensAt C k order) (λ H. order_at C H k ≡ Some order) (λ e. cc)
    (λ turn H. (
      λ e. elim (order_cases (opened_order C turn.event turn.reply H) (length H) k (order_at C H k) order e) [
        | inl n ↦ inl (record { place = n.0; opened = n.1 })
        | inr old ↦ inr old
      ],
      λ c. elim c [
        | inl p ↦ order_new _ (length H) k (order_at C H k) order p.place p.opened
        | inr old ↦ order_stays _ (length H) k (order_at C H k) (order_below C H k order old) ∙ old
      ],
    )) H

-- an opening or a Finish of the ticket
pub same_parts : (a b c d : ℕ) → are_same a b c d ≡ true → (a ≡ c) × (b ≡ d)
same_parts a b c d e = let p = and_parts (eqb a c) (eqb b d) e in (eqb-true a c p.0, eqb-true b d p.1)

pub same_with : (a b c d : ℕ) → a ≡ c → b ≡ d → are_same a b c d ≡ true
same_with a b c d p q = rw (p, q, same_from c d) refl

abbrev is_finish : Event → Bool
is_finish (Finish hart number) = true
is_finish _ = false

abbrev New : Reply → ℕ → ℕ → ℕ → Type 0
New r hart sender ticket = (hart ≡ sender) × (r ≡ Opened ticket)

held_to : (r : Reply) (hart sender ticket place k : ℕ) (old : Option ℕ) → held_after (opened_ticket r) hart sender ticket place old ≡ Some k
    → (New r hart sender ticket × (place ≡ k)) ⊎ ((New r hart sender ticket → ⊥) × (old ≡ Some k))
held_to (Opened number) hart sender ticket place k old e =
    by_test (λ t. cond t (Some place) old ≡ Some k → (New (Opened number) hart sender ticket × (place ≡ k)) ⊎ ((New (Opened number) hart sender ticket → ⊥) × (old ≡ Some k)))
    (are_same hart number sender ticket)
    (λ t e. let p = same_parts hart number sender ticket t in let at : place ≡ k = cc in inl ((p.0, ap Opened p.1), at))
    (λ f e. inr (λ n. let same : number ≡ ticket = let q = n.1 in cc in true≢false (sym (same_with hart number sender ticket n.0 same) ∙ f), e)) e
held_to r hart sender ticket place k old e = inr (λ n. cc, e)

opened_none : (r : Reply) (ticket : ℕ) → opened_ticket r ≡ None → r ≡ Opened ticket → ⊥
opened_none r ticket e g = let q : opened_ticket r ≡ Some ticket = ap opened_ticket g in cc

finish_test : (hart number sender ticket : ℕ) (r : Reply) → Finish hart number ≡ Finish sender ticket → r ≡ Ok → (is_ok r && are_same hart number sender ticket) ≡ true
finish_test hart number sender ticket r e o =
    let p : hart ≡ sender = cc in
    let q : number ≡ ticket = cc in
    rw o (same_with hart number sender ticket p q)

held_from : (r : Reply) (hart sender ticket place k : ℕ) (old : Option ℕ)
    → (New r hart sender ticket × (place ≡ k)) ⊎ ((New r hart sender ticket → ⊥) × (old ≡ Some k)) → held_after (opened_ticket r) hart sender ticket place old ≡ Some k
held_from (Opened number) hart sender ticket place k old c = elim c [
  | inl n ↦ let same : number ≡ ticket = let q = n.0.1 in cc in
      cond-true (are_same hart number sender ticket) (Some place) old (same_with hart number sender ticket n.0.0 same) ∙ ap Some n.1
  | inr o ↦ by_test (λ t. cond t (Some place) old ≡ Some k) (are_same hart number sender ticket)
      (λ t. let p = same_parts hart number sender ticket t in absurd (o.0 (p.0, ap Opened p.1))) (λ _. o.1)
]
held_from r hart sender ticket place k old c = elim c [ inl n ↦ absurd (opened_none r ticket refl n.0.1) | inr o ↦ o.1 ]

abbrev Case : Event → Reply → History → ℕ → ℕ → ℕ → Option ℕ → Type 0
Case e r H sender ticket k old =
    OpensOrder sender ticket k (turn_of e r) H ⊎ ((OpensOrFinishes sender ticket (turn_of e r) H → ⊥) × (old ≡ Some k))

-- an event that orders changes what is open if its reply gives the ticket
order_to : (e : Event) (r : Reply) (H : History) (hart sender ticket k : ℕ) (old : Option ℕ)
    → (IsOrderBy sender e → hart ≡ sender) → (hart ≡ sender → IsOrderBy sender e) → (is_finish e ≡ false)
    → held_after (opened_ticket r) hart sender ticket (length H) old ≡ Some k → Case e r H sender ticket k old
order_to e r H hart sender ticket k old by back other h = elim (held_to r hart sender ticket (length H) k old h) [
  | inl n ↦ inl (record { by_sender = back n.0.0; answer = n.0.1 }, n.1)
  | inr o ↦ inr (
    λ c. elim c [
      | inl p ↦ o.0 (by p.by_sender, p.answer)
      | inr f ↦ false≢true (sym other ∙ ap is_finish f.event)
    ],
    o.1,
  )
]

order_from : (e : Event) (r : Reply) (H : History) (hart sender ticket k : ℕ) (old : Option ℕ)
    → (IsOrderBy sender e → hart ≡ sender) → (hart ≡ sender → IsOrderBy sender e)
    → Case e r H sender ticket k old → held_after (opened_ticket r) hart sender ticket (length H) old ≡ Some k
order_from e r H hart sender ticket k old by back c = held_from r hart sender ticket (length H) k old (elim c [
  | inl n ↦ inl ((by n.0.by_sender, n.0.answer), n.1)
  | inr o ↦ inr (λ n. o.0 (inl (record { by_sender = back n.0; answer = n.1 })), o.1)
])

open_to : (e : Event) (r : Reply) (H : History) (sender ticket k : ℕ) (old : Option ℕ) → open_after e r (length H) sender ticket old ≡ Some k → Case e r H sender ticket k old
open_to (Unmap hart place page named) r H sender ticket k old h = order_to (Unmap hart place page named) r H hart sender ticket k old (λ e. e) (λ e. e) refl h
open_to (Protect hart place page flags named) r H sender ticket k old h = order_to (Protect hart place page flags named) r H hart sender ticket k old (λ e. e) (λ e. e) refl h
open_to (Flush hart scope named) r H sender ticket k old h = order_to (Flush hart scope named) r H hart sender ticket k old (λ e. e) (λ e. e) refl h
open_to (Retire hart space) r H sender ticket k old h = order_to (Retire hart space) r H hart sender ticket k old (λ e. e) (λ e. e) refl h
open_to (Finish hart number) r H sender ticket k old h =
    by_test (λ t. cond t None old ≡ Some k → Case (Finish hart number) r H sender ticket k old) (is_ok r && are_same hart number sender ticket)
    (λ _ h. absurd cc)
    (λ t h. inr (
      λ c. elim c [
        | inl p ↦ p.by_sender
        | inr f ↦ true≢false (sym (finish_test hart number sender ticket r f.event f.accepted) ∙ t)
      ],
      h,
    )) h
open_to e r H sender ticket k old h = inr (λ c. elim c [ inl p ↦ p.by_sender | inr f ↦ false≢true (ap is_finish f.event) ], h)

open_from : (e : Event) (r : Reply) (H : History) (sender ticket k : ℕ) (old : Option ℕ) → Case e r H sender ticket k old → open_after e r (length H) sender ticket old ≡ Some k
open_from (Unmap hart place page named) r H sender ticket k old c = order_from (Unmap hart place page named) r H hart sender ticket k old (λ e. e) (λ e. e) c
open_from (Protect hart place page flags named) r H sender ticket k old c = order_from (Protect hart place page flags named) r H hart sender ticket k old (λ e. e) (λ e. e) c
open_from (Flush hart scope named) r H sender ticket k old c = order_from (Flush hart scope named) r H hart sender ticket k old (λ e. e) (λ e. e) c
open_from (Retire hart space) r H sender ticket k old c = order_from (Retire hart space) r H hart sender ticket k old (λ e. e) (λ e. e) c
open_from (Finish hart number) r H sender ticket k old c = elim c [
  | inl p ↦ absurd p.0.by_sender
  | inr o ↦ by_test (λ t. cond t None old ≡ Some k) (is_ok r && are_same hart number sender ticket)
      (λ t. let p = and3 (is_ok r) (eqb hart sender) (eqb number ticket) t in
      absurd (o.0 (inr (record {
        event = ap (λ a. Finish a number) (eqb-true hart sender p.1) ∙ ap (Finish sender) (eqb-true number ticket p.2);
        accepted = ok_is r p.0;
      }))))
      (λ _. o.1)
]
open_from e r H sender ticket k old c = elim c [ inl p ↦ absurd p.0.by_sender | inr o ↦ o.1 ]

pub opened : (H : History) (sender ticket k : ℕ) → (open_order H sender ticket ≡ Some k) ↔ Since (OpensOrder sender ticket k) (OpensOrFinishes sender ticket) H
opened H sender ticket k = read_since (OpensOrder sender ticket k) (OpensOrFinishes sender ticket) (λ H. open_order H sender ticket ≡ Some k) (λ e. cc)
    (λ turn H. (
      open_to turn.event turn.reply H sender ticket k (open_order H sender ticket),
      open_from turn.event turn.reply H sender ticket k (open_order H sender ticket),
    )) H
