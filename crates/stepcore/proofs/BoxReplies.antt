-- What a machine that stands at a history answers to Post, Take and Close: the reply that is due.
use Rattle.std.proofs.Common.{◌≡◌, ℕ, ◌<◌, Bool, true, false, cond, not, List, [], ◌∷◌, Option, Some, None, slice_get, refl, ap, ◌∙◌, leb, arith}
use Rattle.std.specs.Prelude.{is_some}
use Rattle.shoot.specs.Request.{Request}
use Rattle.shoot.specs.HartSet.{contains}
use Rattle.shoot.specs.Mailbox.{MailboxState, post_fault}
use Rattle.shoot.specs.Tickets.{TicketTable, tells}
use Rattle.pte.specs.declared.TheConstants.{MAX_HARTS}
use Rattle.shoot.specs.declared.mailbox.PostFault.TheVariants as fault
use Rattle.shoot.specs.declared.tickets.Ticket.{Ticket}
use Rattle.shoot.proofs.HartSets.{contains_where}
use Rattle.history.specs.Setup.{Setup}
use Rattle.history.specs.declared.event.Event.TheVariants.{Post, Take, Close}
use Rattle.history.specs.declared.refusal.Refusal.TheVariants.{NotOpen, NotNamed, AlreadyPosted, Closed, Full, Walking, Serving}
use Rattle.history.specs.declared.reply.Reply.{Reply}
use Rattle.history.specs.declared.reply.Reply.TheVariants as reply
use Rattle.history.specs.Turns.{History}
use Rattle.history.specs.Orders.{Order, order_at, open_order}
use Rattle.history.specs.Mailboxes.{waiting, is_closed}
use Rattle.history.specs.Service.{served, has_fenced}
use Rattle.history.specs.Acknowledgements.{is_posted, outstanding}
use Rattle.history.specs.Harts.{walk_of}
use Rattle.history.specs.Due.{due, next_reply}
use Rattle.history.proofs.Passing.{refuse, post_reply}
use Rattle.laws.proofs.Orders.{open_known}
use Rattle.stepcore.specs.declared.serving.Serving.{Serving as Service}
use Rattle.stepcore.specs.State.{State, IsMachine, hart_at, mailbox_at}
use Rattle.stepcore.specs.Answers.{reply_to, post_answer, box_answer, next_answer}
use Rattle.stepcore.specs.Stands.{Stands, ticket_held, tickets_of, mailbox_of}
use Rattle.stepcore.proofs.Tools.{walks_alike, serves_alike, pair_there}
use Rattle.stepcore.proofs.TicketsHeld.{ticket_told}

-- Post
fault_same : (closed full : Bool) → box_answer (cond closed (Some fault.Closed) (cond full (Some fault.Full) None)) ≡ refuse closed Closed (refuse full Full reply.Ok)
fault_same true full = refl
fault_same false true = refl
fault_same false false = refl

abbrev post_with : Option Ticket → MailboxState → ℕ → Reply
post_with ticket mailbox to =
    refuse (not (is_some ticket)) NotOpen
    (refuse (not (tells (λ (x : Ticket). x.named) ticket to)) NotNamed
    (refuse (tells (λ (x : Ticket). x.posted) ticket to) AlreadyPosted
    (box_answer (post_fault mailbox))))

post_due : (C : Setup) (H : History) (s h : ℕ) (o : Option ℕ) → h < MAX_HARTS → ((k : ℕ) → o ≡ Some k → (order : Order) × (order_at C H k ≡ Some order))
    → post_with (ticket_held C H o) (mailbox_of C H s h) h ≡ post_reply C H s h o
post_due C H s h None l f = refl
post_due C H s h (Some k) l f =
    let o = f k refl in
    rw (o.1, contains_where (is_posted H k) h l)
    (ap (λ (r : Reply). refuse (not (contains o.0.named h)) NotNamed (refuse (is_posted H k h) AlreadyPosted r))
    (fault_same (is_closed H s h) (leb C.capacity (outstanding C H s h))))

-- Take
next_same : (ws : List Request) → next_answer (slice_get ws 0) ≡ next_reply ws
next_same [] = refl
next_same (w ∷ ws) = refl

module _ (C : Setup) (m : State) (H : History) (st : Stands C m H) (is : IsMachine m) where
  -- the harts that exist have numbers that a hart can have
  pub hart_below : (h : ℕ) → h < C.harts → h < MAX_HARTS
  hart_below h l = let n = ap (λ (S : Setup). S.harts) st.setup in let few = is.few in omega arith

  -- an open order is one that its sender opened
  pub order_of : (s t k : ℕ) → open_order H s t ≡ Some k → (order : Order) × (order_at C H k ≡ Some order)
  order_of s t k e = let o = open_known C H s t k st.lawful e in (o.order, o.is)

  pub post_reply_due : (s t h : ℕ) → reply_to m (Post s t h) ≡ due C H (Post s t h)
  post_reply_due s t h = pair_there C m s h _ _ st.setup (λ ls lh.
      ap (λ (table : TicketTable). post_answer table (mailbox_at m s h) t h) (st.tickets s ls)
      ∙ ap (λ (mailbox : MailboxState). post_answer (tickets_of C H s) mailbox t h) (st.mailboxes s h ls lh)
      ∙ ap (λ (ticket : Option Ticket). post_with ticket (mailbox_of C H s h) h) (ticket_told C H s t st.lawful)
      ∙ post_due C H s h (open_order H s t) (hart_below h lh) (λ k e. order_of s t k e))

  pub take_reply_due : (h s : ℕ) → reply_to m (Take h s) ≡ due C H (Take h s)
  take_reply_due h s = pair_there C m h s _ _ st.setup (λ lh ls.
      let hart = st.harts h lh in
      ap (λ (v : Bool). refuse v Walking (refuse (is_some (hart_at m h).serving) Serving (next_answer (slice_get (mailbox_at m s h).waiting 0)))) (walks_alike C.layout.scheme _ _ _ _ hart.walk)
      ∙ ap (λ (v : Option Service). refuse (is_some (walk_of H h)) Walking (refuse (is_some v) Serving (next_answer (slice_get (mailbox_at m s h).waiting 0)))) hart.serving
      ∙ ap (λ (v : Bool). refuse (is_some (walk_of H h)) Walking (refuse v Serving (next_answer (slice_get (mailbox_at m s h).waiting 0)))) (serves_alike (has_fenced H h) (served C H h))
      ∙ ap (λ (mailbox : MailboxState). refuse (is_some (walk_of H h)) Walking (refuse (is_some (served C H h)) Serving (next_answer (slice_get mailbox.waiting 0)))) (st.mailboxes s h ls lh)
      ∙ ap (λ (r : Reply). refuse (is_some (walk_of H h)) Walking (refuse (is_some (served C H h)) Serving r)) (next_same (waiting C H s h)))

  pub close_reply_due : (s h : ℕ) → reply_to m (Close s h) ≡ due C H (Close s h)
  close_reply_due s h = pair_there C m s h _ _ st.setup (λ ls lh. ap (λ (mailbox : MailboxState). refuse mailbox.closed Closed reply.Ok) (st.mailboxes s h ls lh))
