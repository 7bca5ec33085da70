-- A machine that stands at a history answers what is due, and stands at the history with one more
-- turn.
use Rattle.std.proofs.Common.{◌≡◌, ◌<◌, List, [], ◌∷◌, ◌++◌, Result, unwrap_or, slice_get, ap, sym, subst, ◌∙◌}
use Rattle.shoot.specs.Mailbox.{MailboxState, empty_mailbox}
use Rattle.shoot.specs.Tickets.{TicketTable, no_tickets}
use Rattle.history.specs.Setup.{Setup}
use Rattle.history.specs.Turns.{History}
use Rattle.history.specs.declared.event.Event.{Event}
use Rattle.history.specs.declared.event.Event.TheVariants.{Begin, Load, Map, Unmap, Protect, Flush, Switch, Fence, Post, Take, ServeFence, Ack, AckSelf, Collect, Finish, Close, Retire, Reclaim, Create}
use Rattle.history.specs.declared.reply.Reply.{Reply}
use Rattle.history.specs.declared.refusal.Refusal.{Refusal}
use Rattle.history.specs.Runs.{with_turn}
use Rattle.history.specs.Due.{due}
use Rattle.stepcore.specs.State.{State, IsMachine, mailbox_index}
use Rattle.stepcore.specs.Answers.{reply_to}
use Rattle.stepcore.specs.Changes.{Answers, reply_of}
use Rattle.stepcore.specs.Stands.{SpaceStands, Stands}
use Rattle.stepcore.proofs.HartReplies as harts
use Rattle.stepcore.proofs.TicketReplies as tickets
use Rattle.stepcore.proofs.BoxReplies as boxes
use Rattle.stepcore.proofs.HartsAfter.{harts_stand}
use Rattle.stepcore.proofs.TicketsAfter.{tickets_step}
use Rattle.stepcore.proofs.BoxesAfter.{mailboxes_stand}
use Rattle.stepcore.proofs.WordsAfter.{words_stand, holders_stand}
use Rattle.stepcore.proofs.SetupKept.{setup_stays}
use Rattle.stepcore.proofs.SpacesAfter.{spaces_stand}
use Rattle.stepcore.proofs.SpaceEvents.{retire_due, reclaim_due, create_due}

module _ (C : Setup) (m : State) (H : History) (st : Stands C m H) (is : IsMachine m) where
  pub answers_due : (event : Event) → reply_to m event ≡ due C H event
  answers_due (Begin hart va access ctx) = harts.begin_due C m H st hart va access ctx
  answers_due (Load hart) = harts.load_due C m H st hart
  answers_due (Map hart place page ppn flags) = harts.map_due C m H st hart place page ppn flags
  answers_due (Unmap hart place page named) = harts.unmap_due C m H st hart place page named (tickets.open_due C m H st hart named)
  answers_due (Protect hart place page flags named) = harts.protect_due C m H st hart place page flags named (tickets.open_due C m H st hart named)
  answers_due (Flush hart scope named) = tickets.flush_due C m H st hart scope named
  answers_due (Switch hart space) = harts.switch_due C m H st hart space
  answers_due (Fence hart rs1 rs2) = harts.fence_due C m H st hart rs1 rs2
  answers_due (Post hart ticket to) = boxes.post_reply_due C m H st is hart ticket to
  answers_due (Take hart from) = boxes.take_reply_due C m H st is hart from
  answers_due (ServeFence hart) = harts.serve_fence_due C m H st hart
  answers_due (Ack hart) = harts.ack_due C m H st hart
  answers_due (AckSelf hart ticket) = tickets.ack_self_due C m H st hart ticket
  answers_due (Collect hart ticket from) = tickets.collect_due C m H st hart ticket from
  answers_due (Finish hart ticket) = tickets.finish_due C m H st hart ticket
  answers_due (Close hart to) = boxes.close_reply_due C m H st is hart to
  answers_due (Retire hart space) = retire_due C m H st is hart space
  answers_due (Reclaim hart space) = reclaim_due C m H st hart space
  answers_due (Create hart space asid) = create_due C m H st hart space asid

  pub stands_after : (event : Event) (result : Result Reply Refusal) (new : State) → Answers m event result new → Stands C new (with_turn event (reply_of result) H)
  stands_after event result new is_done =
      let r : Reply = reply_of result in
      let follows = is_done.follows in
      let d : r ≡ due C H event = is_done.reply ∙ answers_due event in
      record {
        lawful = (st.lawful, d);
        pages = (st.pages, is_done.page);
        within = st.within;
        setup = setup_stays m new event r follows ∙ st.setup;
        words = words_stand C m new H st event r follows;
        count = follows.count ∙ st.count;
        holders = holders_stand C m new H st event r follows;
        spaces = λ s below. subst (SpaceStands C (with_turn event r H) s) (sym (follows.spaces s (subst (λ n. s < n) (sym st.count) below))) (spaces_stand C m H st event r d s below);
        harts = λ h below. rw follows.harts (harts_stand C m H st event r d h below);
        tickets = λ h below.
            ap (λ (xs : List TicketTable). unwrap_or (slice_get xs h) (no_tickets h)) follows.tickets ∙ tickets_step C m H st is event r d h below;
        mailboxes = λ s h ls lh.
            ap (λ (xs : List MailboxState). unwrap_or (slice_get xs (mailbox_index s h)) (empty_mailbox 0)) follows.mailboxes ∙ mailboxes_stand C m H st is event r d s h ls lh;
      }

-- a turn of a run: an event was answered, and its reply put behind those before
pub record Turn (old : State) (event : Event) (new : State) (before after : List Reply) : Type 0 where
  pub result : Result Reply Refusal
  pub pushed : after ≡ before ++ reply_of result ∷ []
  pub answers : Answers old event result new
