-- What a machine that stands at a history answers to the retirement, the reclaim and the creation
-- of a space is what is due.
use Rattle.std.proofs.Common.{◌≡◌, ℕ, cond, not, Option, Some, None, refl, ap, sym, subst, ◌∙◌, eqb}
use Rattle.std.proofs.lemmas.Bool.{eqb-true}
use Rattle.spaces.specs.declared.places.Place.TheVariants.{Space}
use Rattle.spaces.specs.Layout.{Layout, home_of}
use Rattle.shoot.specs.Tickets.{TicketTable}
use Rattle.history.specs.Spaces.{Status, Live, Retires, Free, status_of}
use Rattle.history.specs.declared.refusal.Refusal.TheVariants.{NotHome, Retiring, InUse, HomeNotNamed, NotAcked, NotFree, AsidInUse}
use Rattle.history.specs.declared.reply.Reply.{Reply}
use Rattle.history.specs.declared.reply.Reply.TheVariants as reply
use Rattle.laws.proofs.Tools.{by_test}
use Rattle.laws.proofs.Asids.{retirement}
use Rattle.laws.proofs.Posts.{order_is}
use Rattle.stepcore.proofs.Tools.{hart_there, refused_alike}
use Rattle.stepcore.proofs.SpaceReplies.{free_same, number_there, retiring_same, space_there}
use Rattle.stepcore.proofs.HartReplies.{layout_same}
use Rattle.history.specs.Setup.{Setup}
use Rattle.history.specs.Turns.{History}
use Rattle.history.specs.declared.event.Event.TheVariants.{Retire, Reclaim, Create}
use Rattle.history.specs.Orders.{Order, open_order, is_order}
use Rattle.history.specs.Due.{reclaim_reply, is_done, least_free, opened_reply, due}
use Rattle.history.proofs.Passing.{refuse}
use Rattle.history.specs.Due as due_tests
use Rattle.history.specs.Spaces as spaces
use Rattle.shoot.specs.declared.TheConstants.{MAX_TICKETS}
use Rattle.stepcore.proofs.Closing.{closed_done}
use Rattle.stepcore.proofs.EveryHart.{own_named}
use Rattle.stepcore.proofs.SpacesFound.{in_use_same, asid_used_same}
use Rattle.stepcore.proofs.TicketReplies.{open_due}
use Rattle.stepcore.proofs.TicketsHeld.{done_told}
use Rattle.stepcore.specs.State.{State, IsMachine, space_at, tickets_at}
use Rattle.stepcore.specs.Answers.{every_hart, is_asid_used, is_free_phase, is_in_use, is_retiring, open_in, reclaim_answer, reply_to}
use Rattle.stepcore.specs.declared.space_state.Phase.TheVariants as phase
use Rattle.stepcore.specs.Stands.{ticket_now, phase_with, tickets_of, Stands}

module _ (C : Setup) (m : State) (H : History) (st : Stands C m H) where
  pub retire_due : IsMachine m → (hart space : ℕ) → reply_to m (Retire hart space) ≡ due C H (Retire hart space)
  retire_due is hart space =
      hart_there C m hart _ _ st.setup (λ below. space_there C m H st space _ _ (λ there.
      ap (λ (l : Layout). refuse (not (eqb hart (home_of l (Space space)))) NotHome (refuse (is_retiring (space_at m space).phase) Retiring (refuse (is_in_use m space) InUse (open_in m hart (every_hart m))))) (layout_same C m H st)
      ∙ refused_alike NotHome (eqb hart (home_of C.layout (Space space))) _ _ (λ home.
      ap (λ v. refuse v Retiring (refuse (is_in_use m space) InUse (open_in m hart (every_hart m)))) (retiring_same C m H st space there)
      ∙ ap (λ v. refuse (spaces.is_retiring (status_of H space)) Retiring (refuse v InUse (open_in m hart (every_hart m)))) (in_use_same C m H st space)
      ∙ ap (λ (r : Reply). refuse (spaces.is_retiring (status_of H space)) Retiring (refuse (due_tests.is_in_use C H space) InUse r))
      (open_due C m H st hart (every_hart m) below ∙ ap (λ v. refuse (not v) HomeNotNamed (opened_reply (least_free H hart MAX_TICKETS 0))) (own_named C m H st hart below)))))

  -- the ticket of a retirement is done exactly if each hart is collected; one that is no longer
  -- open was done
  reclaim_with : (hart space : ℕ) → hart ≡ home_of C.layout (Space space) → (status : Status) → status_of H space ≡ status
      → reclaim_answer (tickets_of C H hart) (phase_with C H status) ≡ reclaim_reply C H status
  reclaim_with hart space home Live e = refl
  reclaim_with hart space home (Retires k) e =
      let o = retirement C st.within H space k st.lawful e in
      let own : o.order.sender ≡ hart = o.sender ∙ sym home in
      let opened = open_order H o.order.sender o.order.ticket in
      ap (λ (x : Option Order). reclaim_answer (tickets_of C H hart) (phase.Retiring (ticket_now H k x))) o.is
      ∙ by_test (λ v. reclaim_answer (tickets_of C H hart) (phase.Retiring (cond v (Some o.order.ticket) None)) ≡ refuse (not (is_done C H k)) NotAcked reply.Ok) (is_order opened k)
      (λ t. let here : open_order H hart o.order.ticket ≡ Some k = subst (λ x. open_order H x o.order.ticket ≡ Some k) own (order_is opened k t) in
      ap (λ v. refuse (not v) NotAcked reply.Ok) (done_told C H hart o.order.ticket k st.lawful here))
      (λ closed. sym (ap (λ v. refuse (not v) NotAcked reply.Ok) (closed_done C H k o.order st.lawful o.is closed)))
  reclaim_with hart space home Free e = refl

  pub reclaim_due : (hart space : ℕ) → reply_to m (Reclaim hart space) ≡ due C H (Reclaim hart space)
  reclaim_due hart space =
      hart_there C m hart _ _ st.setup (λ below. space_there C m H st space _ _ (λ there.
      ap (λ (l : Layout). refuse (not (eqb hart (home_of l (Space space)))) NotHome (reclaim_answer (tickets_at m hart) (space_at m space).phase)) (layout_same C m H st)
      ∙ refused_alike NotHome (eqb hart (home_of C.layout (Space space))) _ _ (λ home.
      ap (reclaim_answer (tickets_at m hart)) (st.spaces space there).phase_is ∙ ap (λ (x : TicketTable). reclaim_answer x (phase_with C H (status_of H space))) (st.tickets hart below)
      ∙ reclaim_with hart space (eqb-true hart (home_of C.layout (Space space)) home) (status_of H space) refl)))

  pub create_due : (hart space asid : ℕ) → reply_to m (Create hart space asid) ≡ due C H (Create hart space asid)
  create_due hart space asid =
      hart_there C m hart _ _ st.setup (λ below. number_there C m H st space _ _ (λ there.
      ap (λ (l : Layout). refuse (not (eqb hart (home_of l (Space space)))) NotHome (refuse (not (is_free_phase (space_at m space).phase)) NotFree (refuse (is_asid_used m asid) AsidInUse reply.Ok))) (layout_same C m H st)
      ∙ ap (λ v. refuse (not (eqb hart (home_of C.layout (Space space)))) NotHome (refuse (not v) NotFree (refuse (is_asid_used m asid) AsidInUse reply.Ok))) (free_same C m H st space there)
      ∙ ap (λ v. refuse (not (eqb hart (home_of C.layout (Space space)))) NotHome (refuse (not (spaces.is_free (status_of H space))) NotFree (refuse v AsidInUse reply.Ok))) (asid_used_same C m H st asid)))
