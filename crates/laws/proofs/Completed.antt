-- An order that was answered Done is acknowledged by each hart that it names, and its page is
-- clear.
use Rattle.std.proofs.Common.{◌≡◌, ℕ, ◌<◌, true, false, cond, ◌&&◌, ◌⊎◌, inl, inr, not, [], ◌∷◌, length, Option, Some, None, refl, ap, sym, ◌∙◌, arith}
use Rattle.std.specs.Prelude.{is_some}
use Rattle.std.proofs.lemmas.Bool.{not-false}
use Rattle.shoot.specs.HartSet.{byte_of, contains, is_empty}
use Rattle.pte.specs.declared.TheConstants.{MAX_HARTS}
use Rattle.history.specs.Setup.{Setup}
use Rattle.history.specs.declared.event.Event.{Event}
use Rattle.history.specs.declared.event.Event.TheVariants.{AckSelf, Collect}
use Rattle.history.specs.declared.refusal.Refusal.TheVariants.{NoHart, NotNamed, Walking}
use Rattle.history.specs.declared.reply.Reply.TheVariants as reply
use Rattle.history.specs.Turns.{Turn, History}
use Rattle.history.specs.Orders.{open_order, order_at}
use Rattle.history.specs.Harts.{entries_of, walk_of}
use Rattle.history.specs.Acknowledgements.{is_acked, is_collected, collected_after}
use Rattle.history.specs.Due.{due, Lawful, left_after, left_reply, names}
use Rattle.history.proofs.Passing.{ack_self_reply, collect_reply}
use Rattle.history.specs.Completion.{ClearOnceDone, IsDoneAt}
use Rattle.history.specs.Occurrences.{Sometime}
use Rattle.history.specs.Staleness.{Clear}
use Rattle.history.proofs.Occurred.{acked}
use Rattle.history.proofs.Splits.{not_sometime-empty, sometime-later, sometime_cases}
use Rattle.laws.proofs.Tools.{by_test, none_where}
use Rattle.laws.proofs.Accepted.{passed}
use Rattle.laws.proofs.Orders.{known, open_below, open_known, order_stays}
use Rattle.laws.proofs.Acknowledged.{collected_acked}

module _ (C : Setup) where
  -- where no named hart is left, each is collected
  none_left : (H : History) (event : Event) (k h : ℕ) → left_reply (left_after C H event k) ≡ reply.Done → names (order_at C H k) h ≡ true → h < MAX_HARTS
      → collected_after C event reply.Done H k h (is_collected C H k h) ≡ true
  none_left H event k h e named below =
      by_test (λ t. cond t reply.Done (reply.Waiting (byte_of (left_after C H event k))) ≡ reply.Done → collected_after C event reply.Done H k h (is_collected C H k h) ≡ true)
      (is_empty (left_after C H event k))
      (λ t _.
      let out : (names (order_at C H k) h && not (collected_after C event reply.Done H k h (is_collected C H k h))) ≡ false =
      none_where (λ b. names (order_at C H k) b && not (collected_after C event reply.Done H k b (is_collected C H k b))) h t below in
      not-false (collected_after C event reply.Done H k h (is_collected C H k h)) (rw named at out))
      (λ _ w. absurd (cc (w))) e

  own_told : (H : History) (s t k : ℕ) (o : Option ℕ) → o ≡ Some k → ack_self_reply C H s t o ≡ reply.Done → left_reply (left_after C H (AckSelf s t) k) ≡ reply.Done
  own_told H s t k None q e = absurd (cc (q))
  own_told H s t k (Some j) q e = let same : j ≡ k = cc in rw (← same) (passed (is_some (walk_of H s)) Walking (left_reply (left_after C H (AckSelf s t) j)) reply.Done e refl).1

  collect_told : (H : History) (s t from k : ℕ) (o : Option ℕ) → o ≡ Some k → collect_reply C H s t from o ≡ reply.Done
      → left_reply (left_after C H (Collect s t from) k) ≡ reply.Done
  collect_told H s t from k None q e = absurd (cc (q))
  collect_told H s t from k (Some j) q e = let same : j ≡ k = cc in rw (← same) (passed (not (names (order_at C H j) from)) NotNamed (left_reply (left_after C H (Collect s t from) j)) reply.Done e refl).1

  told : (H : History) (event : Event) (s t k : ℕ) → (event ≡ AckSelf s t) ⊎ ((from : ℕ) × (event ≡ Collect s t from)) → open_order H s t ≡ Some k
      → reply.Done ≡ due C H event → left_reply (left_after C H event k) ≡ reply.Done
  told H event s t k (inl e) o d =
      let d' : reply.Done ≡ due C H (AckSelf s t) = rw e at d in
      rw e (own_told H s t k (open_order H s t) o (passed _ NoHart _ reply.Done (sym d') refl).1)
  told H event s t k (inr (from, e)) o d =
      let d' : reply.Done ≡ due C H (Collect s t from) = rw e at d in
      rw e (collect_told H s t from k (open_order H s t) o (passed _ NoHart _ reply.Done (sym d') refl).1)

  -- at the turn that answers Done
  named_below : (H : History) (s t k h : ℕ) → Lawful C H → open_order H s t ≡ Some k → names (order_at C H k) h ≡ true → h < MAX_HARTS
  named_below H s t k h l o named =
      let own = open_known C H s t k l o in
      let member : contains own.order.named h ≡ true = rw own.is at named in
      (known C H k own.order l own.is).names_harts h member

  at_done : (turn : Turn) (H : History) (k h : ℕ) → Lawful C (turn ∷ H) → IsDoneAt k turn H → names (order_at C H k) h ≡ true → is_acked C (turn ∷ H) k h ≡ true
  at_done turn H k h l d named =
      let due' : reply.Done ≡ due C H turn.event = sym d.told ∙ l.1 in
      let all = none_left H turn.event k h (told H turn.event d.sender d.ticket k d.event d.order due') named (named_below H d.sender d.ticket k h l.0 d.order named) in
      collected_acked C (turn ∷ H) k h (rw d.told all)

  -- and later
  done_below : (H : History) (k : ℕ) → Lawful C H → Sometime (IsDoneAt k) H → k < length H
  done_below [] k l s = absurd (not_sometime-empty (IsDoneAt k) s)
  done_below (turn ∷ H) k l s = elim (sometime_cases (IsDoneAt k) turn H s) [
    | inl d ↦ let b = open_below C H d.sender d.ticket k l.0 d.order in omega (arith, b)
    | inr old ↦ let b = done_below H k l.0 old in omega (arith, b)
  ]

  still_acked : (turn : Turn) (H : History) (k h : ℕ) → is_acked C H k h ≡ true → is_acked C (turn ∷ H) k h ≡ true
  still_acked turn H k h a = (acked C (turn ∷ H) k h).1 (sometime-later _ turn H ((acked C H k h).0 a))

  done_step : (turn : Turn) (H : History) (k h : ℕ) → Lawful C (turn ∷ H) → IsDoneAt k turn H ⊎ Sometime (IsDoneAt k) H
      → (Sometime (IsDoneAt k) H → names (order_at C H k) h ≡ true → is_acked C H k h ≡ true)
      → names (order_at C (turn ∷ H) k) h ≡ true → is_acked C (turn ∷ H) k h ≡ true
  done_step turn H k h l (inl d) before named =
      at_done turn H k h l d (ap (λ o. names o h) (sym (order_stays C turn H k (open_below C H d.sender d.ticket k l.0 d.order))) ∙ named)
  done_step turn H k h l (inr old) before named =
      still_acked turn H k h (before old (ap (λ o. names o h) (sym (order_stays C turn H k (done_below H k l.0 old))) ∙ named))

  pub done_acked : (H : History) (k h : ℕ) → Lawful C H → Sometime (IsDoneAt k) H → names (order_at C H k) h ≡ true → is_acked C H k h ≡ true
  done_acked [] k h l s named = absurd (not_sometime-empty (IsDoneAt k) s)
  done_acked (turn ∷ H) k h l s named = done_step turn H k h l (sometime_cases (IsDoneAt k) turn H s) (done_acked H k h l.0) named

  pub done_clear : (H : History) (k h : ℕ) → Lawful C H → Clear C H (entries_of C H h) k h → ClearOnceDone C H (entries_of C H h) k h
  done_clear H k h l clear = λ of page d fresh asid va space at.
      clear of page
      (record { order = d.order; is = d.is; same_cause = d.cause; named = d.named; acked = done_acked H k h l d.done (ap (λ o. names o h) d.is ∙ d.named) })
      fresh asid va space at
