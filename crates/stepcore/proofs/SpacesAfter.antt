-- What a machine keeps of its spaces after one more event is what the longer history leaves.
use Rattle.std.proofs.Common.{◌≡◌, ℕ, ◌<◌, ◌&&◌, Bool, true, false, cond, length, Option, Some, None, refl, ap, sym, ◌∙◌, inl, inr, eqb}
use Rattle.std.proofs.lemmas.Bool.{and_parts, cases_eq, eq-eqb, ne_eqb, false≢true}
use Rattle.spaces.specs.declared.places.Place.TheVariants.{Space}
use Rattle.spaces.specs.Layout.{Layout, home_of}
use Rattle.history.specs.Setup.{Setup}
use Rattle.history.specs.Turns.{History, is_ok, is_opened, opened_ticket}
use Rattle.history.specs.Orders.{Order, order_at, open_order, is_order}
use Rattle.history.specs.Spaces.{Status, Live, Retires, Free, asid_of, status_of}
use Rattle.history.specs.declared.event.Event.{Event}
use Rattle.history.specs.declared.event.Event.TheVariants.{Finish, Retire, Reclaim, Create}
use Rattle.history.specs.declared.reply.Reply.{Reply}
use Rattle.history.specs.declared.reply.Reply.TheVariants as reply
use Rattle.history.specs.Due.{due}
use Rattle.history.specs.Runs.{with_turn}
use Rattle.history.proofs.Occurred.{same_from}
use Rattle.laws.specs.Orders.{Finishes}
use Rattle.laws.proofs.Accepted.{turn_of}
use Rattle.laws.proofs.Asids.{retirement}
use Rattle.laws.proofs.Orders.{known, order_stays}
use Rattle.laws.proofs.Tools.{by_test}
use Rattle.stepcore.specs.declared.space_state.SpaceState.{SpaceState}
use Rattle.stepcore.specs.State.{State, space_at}
use Rattle.stepcore.specs.declared.space_state.Phase.{Phase}
use Rattle.stepcore.specs.declared.space_state.Phase.TheVariants as phase
use Rattle.stepcore.specs.Changes.{is_under, is_retirement, space_after}
use Rattle.stepcore.specs.Stands.{ticket_now, phase_with, SpaceStands, Stands}
use Rattle.stepcore.proofs.Closing.{open_kept}
use Rattle.stepcore.proofs.HartReplies.{layout_same}

-- the ASID of one of two that have the same
asid_by : (test : Bool) (new old : SpaceState) (asid : ℕ) → new.asid ≡ asid → old.asid ≡ asid → (cond test new old).asid ≡ asid
asid_by true new old asid e f = e
asid_by false new old asid e f = f

asid_set : (test : Bool) (new old : SpaceState) (a b : ℕ) → new.asid ≡ a → old.asid ≡ b → (cond test new old).asid ≡ cond test a b
asid_set true new old a b e f = e
asid_set false new old a b e f = f

-- the phase of a space whose retirement ends under a test
ended_phase : (test : Bool) (x : SpaceState) → (cond test (record { asid = x.asid; phase = phase.Retiring None }) x).phase ≡ cond test (phase.Retiring None) x.phase
ended_phase true x = refl
ended_phase false x = refl

never_under : (ok home : Bool) (new old : Phase) → cond (ok && (home && false)) new old ≡ old
never_under true true new old = refl
never_under true false new old = refl
never_under false home new old = refl

-- an open order, by whether the ticket is the one that is finished and whether the order is the
-- retirement
finish_some : (j k t ticket : ℕ) (same is : Bool) → eqb ticket t ≡ same → eqb t ticket ≡ same → eqb j k ≡ is
    → cond (is_under (phase.Retiring (cond is (Some t) None)) ticket) (phase.Retiring None) (phase.Retiring (cond is (Some t) None))
    ≡ phase.Retiring (cond (is_order (cond same None (Some j)) k) (Some t) None)
finish_some j k t ticket true true e f g = rw f refl
finish_some j k t ticket true false e f g = refl
finish_some j k t ticket false true e f g = rw (f, g) refl
finish_some j k t ticket false false e f g = rw g refl

eqb_turned : (a b : ℕ) → eqb a b ≡ eqb b a
eqb_turned a b = elim (cases_eq a b) [
  | inl same ↦ eq-eqb a b same ∙ sym (eq-eqb b a (sym same))
  | inr apart ↦ ne_eqb a b apart ∙ sym (ne_eqb b a (λ same. apart (sym same)))
]

none_kept : (test : Bool) (k t : ℕ) → phase.Retiring None ≡ phase.Retiring (cond (is_order (cond test None None) k) (Some t) None)
none_kept true k t = refl
none_kept false k t = refl

finish_form : (ok home : Bool) (opened : Option ℕ) (k t ticket : ℕ)
    → cond (ok && (home && is_under (phase.Retiring (cond (is_order opened k) (Some t) None)) ticket)) (phase.Retiring None) (phase.Retiring (cond (is_order opened k) (Some t) None))
    ≡ phase.Retiring (cond (is_order (cond (ok && (home && eqb ticket t)) None opened) k) (Some t) None)
finish_form false home opened k t ticket = refl
finish_form true false opened k t ticket = refl
finish_form true true None k t ticket = none_kept (eqb ticket t) k t
finish_form true true (Some j) k t ticket = finish_some j k t ticket (eqb ticket t) (eqb j k) refl (eqb_turned t ticket) refl

-- a retirement's order is open under the ticket that it was answered
retired_ticket : (C : Setup) (H : History) (hart space : ℕ) (r : Reply) → is_opened r ≡ true
    → opened_ticket r ≡ ticket_now (with_turn (Retire hart space) r H) (length H) (order_at C (with_turn (Retire hart space) r H) (length H))
retired_ticket C H hart space (reply.Opened t) e = rw (eq-eqb (length H) (length H) refl, same_from hart t, eq-eqb (length H) (length H) refl) refl
retired_ticket C H hart space _ e = absurd (false≢true e)

module _ (C : Setup) (m : State) (H : History) (st : Stands C m H) where
  asid_stands : (event : Event) (r : Reply) (s : ℕ) → s < length C.asids → (space_after m event r s (space_at m s)).asid ≡ asid_of C (with_turn event r H) s
  asid_stands (Retire hart space) r s below = asid_by (is_opened r && eqb space s) _ (space_at m s) _ (st.spaces s below).asid (st.spaces s below).asid
  asid_stands (Reclaim hart space) r s below = asid_by (is_ok r && eqb space s) _ (space_at m s) _ (st.spaces s below).asid (st.spaces s below).asid
  asid_stands (Create hart space asid) r s below = asid_set (is_ok r && eqb space s) _ (space_at m s) asid _ refl (st.spaces s below).asid
  asid_stands (Finish hart ticket) r s below = asid_by (is_ok r && is_retirement m hart ticket s (space_at m s)) _ (space_at m s) _ (st.spaces s below).asid (st.spaces s below).asid
  asid_stands _ r s below = (st.spaces s below).asid

  -- the order of a retirement keeps its ticket until a Finish; an opening takes a ticket that is
  -- not open
  phase_kept : (event : Event) (r : Reply) → r ≡ due C H event → ((a n : ℕ) → Finishes (turn_of event r) a n → ⊥) → (s : ℕ) (status : Status) → status_of H s ≡ status
      → phase_with C H status ≡ phase_with C (with_turn event r H) status
  phase_kept event r d none s Live e = refl
  phase_kept event r d none s (Retires k) e =
      let o = retirement C st.within H s k st.lawful e in
      let below = (known C H k o.order st.lawful o.is).below in
      let G = with_turn event r H in
      ap phase.Retiring
      (ap (ticket_now H k) o.is
      ∙ ap (λ v. cond v (Some o.order.ticket) None) (open_kept C event r H o.order.sender o.order.ticket k d below (none o.order.sender o.order.ticket))
      ∙ sym (ap (ticket_now G k) (order_stays C (turn_of event r) H k below ∙ o.is)))
  phase_kept event r d none s Free e = refl

  same_phase : (event : Event) (r : Reply) → r ≡ due C H event → ((a n : ℕ) → Finishes (turn_of event r) a n → ⊥) → (s : ℕ) → s < length C.asids
      → (space_at m s).phase ≡ phase_with C (with_turn event r H) (status_of H s)
  same_phase event r d none s below = (st.spaces s below).phase_is ∙ phase_kept event r d none s (status_of H s) refl

  -- a Finish of the ticket of a retirement, by the space's home
  finish_phase : (hart ticket : ℕ) (r : Reply) (s : ℕ) (status : Status) → status_of H s ≡ status
      → cond (is_ok r && (eqb hart (home_of C.layout (Space s)) && is_under (phase_with C H status) ticket)) (phase.Retiring None) (phase_with C H status)
      ≡ phase_with C (with_turn (Finish hart ticket) r H) status
  finish_phase hart ticket r s Live e = never_under (is_ok r) (eqb hart (home_of C.layout (Space s))) _ _
  finish_phase hart ticket r s (Retires k) e =
      let o = retirement C st.within H s k st.lawful e in
      let G = with_turn (Finish hart ticket) r H in
      ap (λ (x : Option Order). cond (is_ok r && (eqb hart (home_of C.layout (Space s)) && is_under (phase.Retiring (ticket_now H k x)) ticket)) (phase.Retiring None) (phase.Retiring (ticket_now H k x))) o.is
      ∙ ap (λ a. cond (is_ok r && (eqb hart a && is_under (phase.Retiring (ticket_now H k (Some o.order))) ticket)) (phase.Retiring None) (phase.Retiring (ticket_now H k (Some o.order)))) (sym o.sender)
      ∙ finish_form (is_ok r) (eqb hart o.order.sender) (open_order H o.order.sender o.order.ticket) k o.order.ticket ticket
      ∙ sym (ap (λ x. phase.Retiring (ticket_now G k x)) o.is)
  finish_phase hart ticket r s Free e = never_under (is_ok r) (eqb hart (home_of C.layout (Space s))) _ _

  phase_stands : (event : Event) (r : Reply) → r ≡ due C H event → (s : ℕ) → s < length C.asids
      → (space_after m event r s (space_at m s)).phase ≡ phase_with C (with_turn event r H) (status_of (with_turn event r H) s)
  phase_stands (Retire hart space) r d s below =
      let G = with_turn (Retire hart space) r H in
      let x = space_at m s in
      by_test (λ v. (cond v (record { asid = x.asid; phase = phase.Retiring (opened_ticket r) }) x).phase ≡ phase_with C G (cond v (Retires (length H)) (status_of H s))) (is_opened r && eqb space s)
      (λ z. ap phase.Retiring (retired_ticket C H hart space r (and_parts (is_opened r) (eqb space s) z).0))
      (λ _. same_phase (Retire hart space) r d (λ a n f. cc (f.event)) s below)
  phase_stands (Reclaim hart space) r d s below =
      let G = with_turn (Reclaim hart space) r H in
      let x = space_at m s in
      by_test (λ v. (cond v (record { asid = x.asid; phase = phase.Free }) x).phase ≡ phase_with C G (cond v Free (status_of H s))) (is_ok r && eqb space s)
      (λ _. refl) (λ _. same_phase (Reclaim hart space) r d (λ a n f. cc (f.event)) s below)
  phase_stands (Create hart space asid) r d s below =
      let G = with_turn (Create hart space asid) r H in
      let x = space_at m s in
      by_test (λ v. (cond v (record { asid = asid; phase = phase.Live }) x).phase ≡ phase_with C G (cond v Live (status_of H s))) (is_ok r && eqb space s)
      (λ _. refl) (λ _. same_phase (Create hart space asid) r d (λ a n f. cc (f.event)) s below)
  phase_stands (Finish hart ticket) r d s below =
      let x = space_at m s in
      ended_phase (is_ok r && is_retirement m hart ticket s x) x
      ∙ ap (λ (l : Layout). cond (is_ok r && (eqb hart (home_of l (Space s)) && is_under x.phase ticket)) (phase.Retiring None) x.phase) (layout_same C m H st)
      ∙ ap (λ (p : Phase). cond (is_ok r && (eqb hart (home_of C.layout (Space s)) && is_under p ticket)) (phase.Retiring None) p) (st.spaces s below).phase_is
      ∙ finish_phase hart ticket r s (status_of H s) refl
  phase_stands event r d s below = same_phase event r d (λ a n f. cc (f.event)) s below

  pub spaces_stand : (event : Event) (r : Reply) → r ≡ due C H event → (s : ℕ) → s < length C.asids → SpaceStands C (with_turn event r H) s (space_after m event r s (space_at m s))
  spaces_stand event r d s below = record { asid = asid_stands event r s below; phase_is = phase_stands event r d s below }
