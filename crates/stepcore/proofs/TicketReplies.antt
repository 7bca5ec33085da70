-- The replies to events on tickets: what a machine that stands at a history answers is what is due
-- there.
use Rattle.std.proofs.Common.{◌≡◌, ℕ, ◌<◌, true, cond, not, Option, Some, None, refl, ap, ◌∙◌, arith}
use Rattle.std.specs.Prelude.{is_some, Err}
use Rattle.shoot.specs.HartSet.{contains, harts_in}
use Rattle.shoot.specs.Tickets.{TicketTable, acked_by, ticket_at, is_open, names, opened, lowest_free, open_answer, with_change, with_acked, with_collected, changed, tells, progress_with, progress_at, after_collect}
use Rattle.pte.specs.declared.TheConstants.{MAX_HARTS}
use Rattle.shoot.specs.declared.TheConstants.{MAX_TICKETS}
use Rattle.shoot.specs.declared.tickets.Ticket.{Ticket}
use Rattle.shoot.specs.declared.tickets.TicketFault.TheVariants as ticket_fault
use Rattle.shoot.proofs.HartSets.{by_test}
use Rattle.shoot.proofs.TicketLaws.{at_changed}
use Rattle.history.specs.declared.event.Event.TheVariants.{Flush, AckSelf, Collect, Finish}
use Rattle.history.specs.declared.event.Scope.{Scope}
use Rattle.history.specs.declared.refusal.Refusal.TheVariants.{HomeNotNamed, NotOpen, NotNamed, Walking, NotDone}
use Rattle.history.specs.declared.reply.Reply.{Reply}
use Rattle.history.specs.declared.reply.Reply.TheVariants as reply
use Rattle.history.specs.Setup.{Setup}
use Rattle.history.specs.Turns.{History}
use Rattle.history.specs.Orders.{open_order, order_at}
use Rattle.history.specs.Harts.{walk_of}
use Rattle.history.specs.Due.{least_free, opened_reply, open_reply, left_after, left_reply, due, Lawful}
use Rattle.history.proofs.Passing.{refuse, ack_self_reply, collect_reply, finish_reply}
use Rattle.history.specs.Due as due_tests
use Rattle.history.specs.Runs.{with_turn}
use Rattle.stepcore.specs.State.{State, HartState, hart_at}
use Rattle.stepcore.specs.Answers.{opening_answer, open_in, progress_reply, ack_self_answer, collect_answer, finish_answer, reply_to}
use Rattle.stepcore.specs.Stands.{tickets_of, Stands}
use Rattle.stepcore.proofs.Tools.{walks_alike, hart_there, harts_there, pair_there}
use Rattle.stepcore.proofs.SpaceReplies.{scope_there}
use Rattle.stepcore.proofs.TicketsHeld.{ticket_for, OpenHere, open_here, open_told, names_told, free_told, done_told, left_of, uncollected_told, progress_told}
use Rattle.stepcore.proofs.TicketMarks.{own_mark, collected_mark}

-- ---- an opening

opened_same : (o : Option ℕ) → opening_answer (opened o) ≡ opened_reply o
opened_same None = refl
opened_same (Some n) = refl

pub opening_told : (C : Setup) (H : History) (h named : ℕ) → Lawful C H → opening_answer (open_answer (tickets_of C H h) named) ≡ open_reply H h named
opening_told C H h named l =
    by_test (λ v. opening_answer (cond v (opened (lowest_free (tickets_of C H h))) (Err ticket_fault.HomeNotNamed)) ≡ refuse (not v) HomeNotNamed (opened_reply (least_free H h MAX_TICKETS 0)))
    (contains (harts_in named) h)
    (λ _. opened_same (lowest_free (tickets_of C H h)) ∙ ap opened_reply (free_told C H h l))
    (λ _. refl)

-- ---- acknowledging and collecting

-- how far an open ticket is once it was changed to that of a history
changed_progress : (C : Setup) (H G : History) (s t k : ℕ) (change : Ticket → Ticket) (o : OpenHere C H s t k) → order_at C G k ≡ Some o.order
    → change (ticket_for C H k o.order) ≡ ticket_for C G k o.order
    → progress_reply (progress_at (with_change (tickets_of C H s) t change) t) ≡ left_reply (left_of C G k)
changed_progress C H G s t k change o is after =
    let here : ticket_at (with_change (tickets_of C H s) t change) t ≡ Some (ticket_for C G k o.order) =
    at_changed (tickets_of C H s) t change ∙ (ap (changed change) o.ticket ∙ ap Some after) in
    ap (λ (x : Option Ticket). progress_reply (progress_with x)) here
    ∙ (progress_told (ticket_for C G k o.order) ∙ ap left_reply (uncollected_told C G k o.order is))

-- a hart is named by each of its open tickets
pub own_named : (C : Setup) (H : History) (h t k : ℕ) → h < MAX_HARTS → OpenHere C H h t k → names (tickets_of C H h) t h ≡ true
own_named C H h t k less o = ap (λ (x : Option Ticket). tells (λ ticket. ticket.named) x h) o.ticket ∙ o.names_sender less

pub own_acked : (C : Setup) (H : History) (h t k : ℕ) → h < MAX_HARTS → OpenHere C H h t k → acked_by (tickets_of C H h) t h ≡ with_change (tickets_of C H h) t (with_acked h h)
own_acked C H h t k less o = ap (λ v. cond v (with_change (tickets_of C H h) t (with_acked h h)) (tickets_of C H h)) (own_named C H h t k less o)

own_progress : (C : Setup) (H : History) (h t k : ℕ) → h < MAX_HARTS → Lawful C H → open_order H h t ≡ Some k
    → progress_reply (progress_at (acked_by (tickets_of C H h) t h) t) ≡ left_reply (left_after C H (AckSelf h t) k)
own_progress C H h t k less l e =
    let o = open_here C H h t k l e in
    ap (λ (x : TicketTable). progress_reply (progress_at x t)) (own_acked C H h t k less o)
    ∙ changed_progress C H (with_turn (AckSelf h t) reply.Done H) h t k (with_acked h h) o o.is (own_mark C H h t k o.order reply.Done refl e)

collect_progress : (C : Setup) (H : History) (h t from k : ℕ) → Lawful C H → open_order H h t ≡ Some k
    → progress_reply (progress_at (after_collect (tickets_of C H h) t from) t) ≡ left_reply (left_after C H (Collect h t from) k)
collect_progress C H h t from k l e =
    let o = open_here C H h t k l e in
    changed_progress C H (with_turn (Collect h t from) reply.Done H) h t k (with_collected from) o o.is (collected_mark C H h t from k o.order reply.Done refl e)

-- a ticket that is not open is refused, and one that is open is answered by the rest
unopened : (C : Setup) (H : History) (h t : ℕ) (o : Option ℕ) (rest : Reply) → Lawful C H → open_order H h t ≡ o
    → refuse (not (is_open (tickets_of C H h) t)) NotOpen rest ≡ refuse (not (is_some o)) NotOpen rest
unopened C H h t o rest l e = ap (λ v. refuse (not v) NotOpen rest) (open_told C H h t l ∙ ap is_some e)

self_with : (C : Setup) (H : History) (hart : HartState) (h t : ℕ) (o : Option ℕ) → h < MAX_HARTS → Lawful C H → is_some hart.walk ≡ is_some (walk_of H h) → open_order H h t ≡ o
    → ack_self_answer hart (tickets_of C H h) t h ≡ ack_self_reply C H h t o
self_with C H hart h t None less l w e = unopened C H h t None _ l e
self_with C H hart h t (Some k) less l w e =
    unopened C H h t (Some k) _ l e
    ∙ (ap (λ v. refuse v Walking (progress_reply (progress_at (acked_by (tickets_of C H h) t h) t))) w
    ∙ ap (λ (r : Reply). refuse (is_some (walk_of H h)) Walking r) (own_progress C H h t k less l e))

collect_with : (C : Setup) (H : History) (h t from : ℕ) (o : Option ℕ) → Lawful C H → open_order H h t ≡ o → collect_answer (tickets_of C H h) t from ≡ collect_reply C H h t from o
collect_with C H h t from None l e = unopened C H h t None _ l e
collect_with C H h t from (Some k) l e =
    unopened C H h t (Some k) _ l e
    ∙ (ap (λ v. refuse (not v) NotNamed (progress_reply (progress_at (after_collect (tickets_of C H h) t from) t))) (names_told C H h t k from l e)
    ∙ ap (λ (r : Reply). refuse (not (due_tests.names (order_at C H k) from)) NotNamed r) (collect_progress C H h t from k l e))

finish_with : (C : Setup) (H : History) (h t : ℕ) (o : Option ℕ) → Lawful C H → open_order H h t ≡ o → finish_answer (tickets_of C H h) t ≡ finish_reply C H o
finish_with C H h t None l e = unopened C H h t None _ l e
finish_with C H h t (Some k) l e =
    unopened C H h t (Some k) _ l e ∙ ap (λ v. refuse (not v) NotDone reply.Ok) (done_told C H h t k l e)

-- ---- the replies of a machine that stands at a history

module _ (C : Setup) (m : State) (H : History) (st : Stands C m H) where
  pub open_due : (hart named : ℕ) → hart < C.harts → open_in m hart named ≡ open_reply H hart named
  open_due hart named below = ap (λ (x : TicketTable). opening_answer (open_answer x named)) (st.tickets hart below) ∙ opening_told C H hart named st.lawful

  pub flush_due : (hart : ℕ) (scope : Scope) (named : ℕ) → reply_to m (Flush hart scope named) ≡ due C H (Flush hart scope named)
  flush_due hart scope named =
      harts_there C m hart named _ _ st.setup (λ below.
      scope_there C m H st scope _ _ (open_due hart named below))

  pub ack_self_due : (hart ticket : ℕ) → reply_to m (AckSelf hart ticket) ≡ due C H (AckSelf hart ticket)
  ack_self_due hart ticket =
      hart_there C m hart _ _ st.setup (λ below.
      ap (λ (x : TicketTable). ack_self_answer (hart_at m hart) x ticket hart) (st.tickets hart below)
      ∙ self_with C H (hart_at m hart) hart ticket (open_order H hart ticket) (omega (arith, below, st.within.harts)) st.lawful (walks_alike C.layout.scheme _ _ _ _ (st.harts hart below).walk) refl)

  pub collect_due : (hart ticket from : ℕ) → reply_to m (Collect hart ticket from) ≡ due C H (Collect hart ticket from)
  collect_due hart ticket from =
      pair_there C m hart from _ _ st.setup (λ below _.
      ap (λ (x : TicketTable). collect_answer x ticket from) (st.tickets hart below)
      ∙ collect_with C H hart ticket from (open_order H hart ticket) st.lawful refl)

  pub finish_due : (hart ticket : ℕ) → reply_to m (Finish hart ticket) ≡ due C H (Finish hart ticket)
  finish_due hart ticket =
      hart_there C m hart _ _ st.setup (λ below.
      ap (λ (x : TicketTable). finish_answer x ticket) (st.tickets hart below)
      ∙ finish_with C H hart ticket (open_order H hart ticket) st.lawful refl)
