-- Whether a space is live, retiring or free, and which ASID it has, is by the last turn that
-- decided it.
use Rattle.std.proofs.Common.{◌≡◌, ℕ, Bool, true, false, ◌&&◌, ◌⊎◌, inl, inr, length, refl, ap, sym, ◌∙◌, eqb, slice_index}
use Rattle.std.specs.Prelude.{◌↔◌}
use Rattle.std.proofs.lemmas.Bool.{and_parts, eqb-true, eq-eqb, false≢true}
use Rattle.history.specs.Setup.{Setup}
use Rattle.history.specs.declared.event.Event.{Event}
use Rattle.history.specs.declared.event.Event.TheVariants.{Retire, Reclaim, Create}
use Rattle.history.specs.declared.reply.Reply.{Reply}
use Rattle.history.specs.Turns.{Turn, History, is_ok, is_opened}
use Rattle.history.specs.Spaces.{Status, Live, Retires, Free, status_of, status_after, asid_of, asid_after}
use Rattle.history.specs.Occurrences.{Since, SinceOr, IsRetire, IsReclaim, IsCreate, Creates, Decides}
use Rattle.history.proofs.Splits.{read_since}
use Rattle.history.proofs.Occurred.{turn_of, ok_is, opened_is}
use Rattle.history.proofs.Lasting.{read_since_or, by_cond, by_old, ok_and}

abbrev is_retire : Event → Bool
is_retire (Retire hart space) = true
is_retire _ = false

abbrev is_reclaim : Event → Bool
is_reclaim (Reclaim hart space) = true
is_reclaim _ = false

abbrev is_create : Event → Bool
is_create (Create hart space asid) = true
is_create _ = false

-- what an event that decides it was
module _ (s : ℕ) (H : History) where
  retire_now : (hart space : ℕ) (r : Reply) → (is_opened r && eqb space s) ≡ true → IsRetire s (length H) (turn_of (Retire hart space) r) H
  retire_now hart space r t =
      let p = and_parts (is_opened r) (eqb space s) t in
      let o = opened_is r p.0 in
      record { hart = hart; ticket = o.0; event = ap (Retire hart) (eqb-true space s p.1); accepted = o.1; place = refl }

  reclaim_now : (hart space : ℕ) (r : Reply) → (is_ok r && eqb space s) ≡ true → IsReclaim s (turn_of (Reclaim hart space) r) H
  reclaim_now hart space r t =
      let p = and_parts (is_ok r) (eqb space s) t in
      record { hart = hart; event = ap (Reclaim hart) (eqb-true space s p.1); accepted = ok_is r p.0 }

  create_now : (hart space asid : ℕ) (r : Reply) → (is_ok r && eqb space s) ≡ true → IsCreate s asid (turn_of (Create hart space asid) r) H
  create_now hart space asid r t =
      let p = and_parts (is_ok r) (eqb space s) t in
      record { hart = hart; event = ap (λ x. Create hart x asid) (eqb-true space s p.1); accepted = ok_is r p.0 }

  retire_test : (hart space k : ℕ) (r : Reply) → IsRetire s k (turn_of (Retire hart space) r) H → (is_opened r && eqb space s) ≡ true
  retire_test hart space k r p =
      let same : Retire hart space ≡ Retire p.hart s = p.event in
      let a : space ≡ s = cc in
      rw (p.accepted, eq-eqb space s a) refl

  reclaim_test : (hart space : ℕ) (r : Reply) → IsReclaim s (turn_of (Reclaim hart space) r) H → (is_ok r && eqb space s) ≡ true
  reclaim_test hart space r p =
      let same : Reclaim hart space ≡ Reclaim p.hart s = p.event in
      let a : space ≡ s = cc in
      ok_and r space s p.accepted a

  create_test : (hart space asid a : ℕ) (r : Reply) → IsCreate s a (turn_of (Create hart space asid) r) H → (is_ok r && eqb space s) ≡ true
  create_test hart space asid a r p =
      let same : Create hart space asid ≡ Create p.hart s a = p.event in
      let b : space ≡ s = cc in
      ok_and r space s p.accepted b

  created_asid : (hart space asid a : ℕ) (r : Reply) → IsCreate s a (turn_of (Create hart space asid) r) H → asid ≡ a
  created_asid hart space asid a r p =
      let same : Create hart space asid ≡ Create p.hart s a = p.event in
      cc

  -- of each of the three events only its own kind decides
  by_retire : (hart space : ℕ) (r : Reply) → Decides s (turn_of (Retire hart space) r) H → (is_opened r && eqb space s) ≡ true
  by_retire hart space r q = elim q [
    | inl x ↦ retire_test hart space x.0 r x.1
    | inr x ↦ elim x [ inl y ↦ absurd (false≢true (ap is_reclaim y.event)) | inr y ↦ absurd (false≢true (ap is_create y.1.event)) ]
  ]

  by_reclaim : (hart space : ℕ) (r : Reply) → Decides s (turn_of (Reclaim hart space) r) H → (is_ok r && eqb space s) ≡ true
  by_reclaim hart space r q = elim q [
    | inl x ↦ absurd (false≢true (ap is_retire x.1.event))
    | inr x ↦ elim x [ inl y ↦ reclaim_test hart space r y | inr y ↦ absurd (false≢true (ap is_create y.1.event)) ]
  ]

  by_create : (hart space asid : ℕ) (r : Reply) → Decides s (turn_of (Create hart space asid) r) H → (is_ok r && eqb space s) ≡ true
  by_create hart space asid r q = elim q [
    | inl x ↦ absurd (false≢true (ap is_retire x.1.event))
    | inr x ↦ elim x [ inl y ↦ absurd (false≢true (ap is_reclaim y.event)) | inr y ↦ create_test hart space asid y.0 r y.1 ]
  ]

  no_decision : (e : Event) (r : Reply) → is_retire e ≡ false → is_reclaim e ≡ false → is_create e ≡ false → Decides s (turn_of e r) H → ⊥
  no_decision e r a b c q = elim q [
    | inl x ↦ false≢true (sym a ∙ ap is_retire x.1.event)
    | inr x ↦ elim x [ inl y ↦ false≢true (sym b ∙ ap is_reclaim y.event) | inr y ↦ false≢true (sym c ∙ ap is_create y.1.event) ]
  ]

-- one turn more
module _ (s : ℕ) where
  abbrev Now : (Turn → History → Type 0) → Status → Event → Reply → History → Status → Type 0
  Now P wanted e r H old = (status_after e r (length H) s old ≡ wanted) ↔ (P (turn_of e r) H ⊎ ((Decides s (turn_of e r) H → ⊥) × (old ≡ wanted)))

  retires_step : (k : ℕ) (e : Event) (r : Reply) (H : History) (old : Status) → Now (IsRetire s k) (Retires k) e r H old
  retires_step k (Retire hart space) r H old =
      by_cond (is_opened r && eqb space s) (Retires (length H)) old (Retires k) (IsRetire s k (turn_of (Retire hart space) r) H) (Decides s (turn_of (Retire hart space) r) H)
      (λ t e. let n = retire_now s H hart space r t in
      let at : length H ≡ k = cc in
      record { hart = n.hart; ticket = n.ticket; event = n.event; accepted = n.accepted; place = at })
      (λ p. (retire_test s H hart space k r p, ap Retires p.place))
      (λ t. inr (inl (length H, retire_now s H hart space r t)))
      (λ q. by_retire s H hart space r q)
  retires_step k (Reclaim hart space) r H old =
      by_cond (is_ok r && eqb space s) Free old (Retires k) (IsRetire s k (turn_of (Reclaim hart space) r) H) (Decides s (turn_of (Reclaim hart space) r) H)
      (λ t e. absurd (cc (e))) (λ p. absurd (false≢true (ap is_retire p.event))) (λ t. inr (inr (inl (reclaim_now s H hart space r t)))) (λ q. by_reclaim s H hart space r q)
  retires_step k (Create hart space asid) r H old =
      by_cond (is_ok r && eqb space s) Live old (Retires k) (IsRetire s k (turn_of (Create hart space asid) r) H) (Decides s (turn_of (Create hart space asid) r) H)
      (λ t e. absurd (cc (e))) (λ p. absurd (false≢true (ap is_retire p.event))) (λ t. inr (inr (inr (asid, create_now s H hart space asid r t)))) (λ q. by_create s H hart space asid r q)
  retires_step k e r H old =
      by_old old (Retires k) (IsRetire s k (turn_of e r) H) (Decides s (turn_of e r) H) (λ p. false≢true (ap is_retire p.event)) (no_decision s H e r refl refl refl)

  free_step : (e : Event) (r : Reply) (H : History) (old : Status) → Now (IsReclaim s) Free e r H old
  free_step (Retire hart space) r H old =
      by_cond (is_opened r && eqb space s) (Retires (length H)) old Free (IsReclaim s (turn_of (Retire hart space) r) H) (Decides s (turn_of (Retire hart space) r) H)
      (λ t e. absurd (cc (e))) (λ p. absurd (false≢true (ap is_reclaim p.event))) (λ t. inr (inl (length H, retire_now s H hart space r t))) (λ q. by_retire s H hart space r q)
  free_step (Reclaim hart space) r H old =
      by_cond (is_ok r && eqb space s) Free old Free (IsReclaim s (turn_of (Reclaim hart space) r) H) (Decides s (turn_of (Reclaim hart space) r) H)
      (λ t _. reclaim_now s H hart space r t) (λ p. (reclaim_test s H hart space r p, refl)) (λ t. inl refl) (λ q. by_reclaim s H hart space r q)
  free_step (Create hart space asid) r H old =
      by_cond (is_ok r && eqb space s) Live old Free (IsReclaim s (turn_of (Create hart space asid) r) H) (Decides s (turn_of (Create hart space asid) r) H)
      (λ t e. absurd (cc (e))) (λ p. absurd (false≢true (ap is_reclaim p.event))) (λ t. inr (inr (inr (asid, create_now s H hart space asid r t)))) (λ q. by_create s H hart space asid r q)
  free_step e r H old =
      by_old old Free (IsReclaim s (turn_of e r) H) (Decides s (turn_of e r) H) (λ p. false≢true (ap is_reclaim p.event)) (no_decision s H e r refl refl refl)

  live_step : (e : Event) (r : Reply) (H : History) (old : Status) → Now (Creates s) Live e r H old
  live_step (Retire hart space) r H old =
      by_cond (is_opened r && eqb space s) (Retires (length H)) old Live (Creates s (turn_of (Retire hart space) r) H) (Decides s (turn_of (Retire hart space) r) H)
      (λ t e. absurd (cc (e))) (λ p. absurd (false≢true (ap is_create p.1.event))) (λ t. inr (inl (length H, retire_now s H hart space r t))) (λ q. by_retire s H hart space r q)
  live_step (Reclaim hart space) r H old =
      by_cond (is_ok r && eqb space s) Free old Live (Creates s (turn_of (Reclaim hart space) r) H) (Decides s (turn_of (Reclaim hart space) r) H)
      (λ t e. absurd (cc (e))) (λ p. absurd (false≢true (ap is_create p.1.event))) (λ t. inr (inr (inl (reclaim_now s H hart space r t)))) (λ q. by_reclaim s H hart space r q)
  live_step (Create hart space asid) r H old =
      by_cond (is_ok r && eqb space s) Live old Live (Creates s (turn_of (Create hart space asid) r) H) (Decides s (turn_of (Create hart space asid) r) H)
      (λ t _. (asid, create_now s H hart space asid r t)) (λ p. (create_test s H hart space asid p.0 r p.1, refl)) (λ t. inl refl) (λ q. by_create s H hart space asid r q)
  live_step e r H old =
      by_old old Live (Creates s (turn_of e r) H) (Decides s (turn_of e r) H) (λ p. false≢true (ap is_create p.1.event)) (no_decision s H e r refl refl refl)

pub retires : (H : History) (s k : ℕ) → (status_of H s ≡ Retires k) ↔ Since (IsRetire s k) (Decides s) H
retires H s k = read_since (IsRetire s k) (Decides s) (λ H. status_of H s ≡ Retires k) (λ e. cc (e)) (λ turn H. retires_step s k turn.event turn.reply H (status_of H s)) H

pub free : (H : History) (s : ℕ) → (status_of H s ≡ Free) ↔ Since (IsReclaim s) (Decides s) H
free H s = read_since (IsReclaim s) (Decides s) (λ H. status_of H s ≡ Free) (λ e. cc (e)) (λ turn H. free_step s turn.event turn.reply H (status_of H s)) H

pub live : (H : History) (s : ℕ) → (status_of H s ≡ Live) ↔ SinceOr (Creates s) (Decides s) (Unit {0}) H
live H s = read_since_or (Creates s) (Decides s) (λ H. status_of H s ≡ Live) (Unit {0}) (λ _. tt, λ _. refl) (λ turn H. live_step s turn.event turn.reply H (status_of H s)) H

-- the ASID
asid_step : (e : Event) (r : Reply) (H : History) (s a old : ℕ) → (asid_after e r s old ≡ a) ↔ (IsCreate s a (turn_of e r) H ⊎ ((Creates s (turn_of e r) H → ⊥) × (old ≡ a)))
asid_step (Create hart space asid) r H s a old =
    by_cond (is_ok r && eqb space s) asid old a (IsCreate s a (turn_of (Create hart space asid) r) H) (Creates s (turn_of (Create hart space asid) r) H)
    (λ t e. let n = create_now s H hart space asid r t in
    record { hart = n.hart; event = n.event ∙ ap (Create n.hart s) e; accepted = n.accepted })
    (λ p. (create_test s H hart space asid a r p, created_asid s H hart space asid a r p))
    (λ t. inr (asid, create_now s H hart space asid r t))
    (λ q. create_test s H hart space asid q.0 r q.1)
asid_step e r H s a old =
    by_old old a (IsCreate s a (turn_of e r) H) (Creates s (turn_of e r) H) (λ p. false≢true (ap is_create p.event)) (λ q. false≢true (ap is_create q.1.event))

pub asids : (C : Setup) (H : History) (s a : ℕ) → (asid_of C H s ≡ a) ↔ SinceOr (IsCreate s a) (Creates s) (slice_index C.asids s ≡ a) H
asids C H s a = read_since_or (IsCreate s a) (Creates s) (λ H. asid_of C H s ≡ a) (slice_index C.asids s ≡ a) (λ e. e, λ e. e) (λ turn H. asid_step turn.event turn.reply H s a (asid_of C H s)) H
