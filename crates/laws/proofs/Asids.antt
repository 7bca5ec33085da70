-- ASIDs of spaces over a lawful history: they differ, harts are in live spaces, and no TLB holds
-- what is of an ASID that is free.
use Rattle.std.proofs.Common.{◌≡◌, ℕ, ◌%◌, ◌^◌, ◌<◌, ◌≤◌, ◌⊎◌, Bool, true, false, cond, ◌&&◌, not, [], ◌∷◌, length, Some, refl, ap, sym, ◌∙◌, subst, eqb, inl, inr, arith}
use Rattle.std.specs.Prelude.{All}
use Rattle.std.specs.List.{slice_index_or}
use Rattle.std.proofs.lemmas.Bool.{and_parts, and_from, eqb-true, eq-eqb, ne_eqb, cases_Bool, cases_lt, false≢true, true≢false, not-false, not-true, ltb-true, lt-ltb}
use Rattle.std.proofs.lemmas.List.Elements.{All-nil, All-weaker}
use Rattle.pte.specs.declared.address.What.TheVariants.{SpaceOf}
use Rattle.shoot.specs.HartSet.{contains, harts_where, is_empty}
use Rattle.pte.specs.declared.TheConstants.{ASID_BITS, MAX_HARTS}
use Rattle.shoot.proofs.HartSets.{contains_where}
use Rattle.tlb.specs.declared.store.Entry.{Entry}
use Rattle.tlb.specs.Service.{is_dropped}
use Rattle.spaces.specs.declared.places.Place.TheVariants.{Space}
use Rattle.spaces.specs.Layout.{home_of}
use Rattle.history.specs.Setup.{Setup, is_hart}
use Rattle.history.specs.Spaces.{Status, Live, Retires, Free, status_of, is_free, is_retiring, asid_of, asid_after}
use Rattle.history.specs.declared.event.Event.{Event}
use Rattle.history.specs.declared.event.Event.TheVariants.{Load, Switch, Retire, Reclaim, Create}
use Rattle.history.specs.declared.refusal.Refusal.TheVariants.{NoHart, NoSpace, Retiring}
use Rattle.history.specs.declared.reply.Reply.{Reply}
use Rattle.history.specs.declared.reply.Reply.TheVariants as reply
use Rattle.history.specs.Turns.{Turn, History, is_ok, is_opened, is_filled, opened_ticket}
use Rattle.history.specs.Orders.{Order, Flushed, order_at, what_asked}
use Rattle.history.specs.Acknowledgements.{is_acked, is_collected}
use Rattle.history.specs.Harts.{space_of, entries_of}
use Rattle.history.specs.Due.{due, is_space, is_in_use, names, Lawful}
use Rattle.history.specs.Staleness.{HasAsid, IsOfUsedAsid, HoldsUsedAsids}
pub use Rattle.history.proofs.Retiring.{asid_found}
use Rattle.laws.specs.Fills.{Fills}
use Rattle.laws.specs.Kept.{HasPage, HavePages, IsSetup, AsidsDiffer}
use Rattle.laws.proofs.Tools.{by_test, none_where}
use Rattle.laws.proofs.Accepted.{turn_of, is_accepted, passed, ok_accepted, retire_found, reclaim_found, create_found, CreateFound, space_is}
use Rattle.laws.proofs.Orders.{order_stays, known}
use Rattle.laws.proofs.Acknowledged.{acked_before, collected_acked}
use Rattle.laws.proofs.Filling.{entries_each, acknowledged}
use Rattle.laws.proofs.Causes.{space_there}

opened_some : (r : Reply) → is_opened r ≡ true → (t : ℕ) × (opened_ticket r ≡ Some t)
opened_some (reply.Opened t) e = (t, refl)
opened_some _ e = absurd (false≢true e)

live_from : (status : Status) → is_free status ≡ false → is_retiring status ≡ false → status ≡ Live
live_from Live f r = refl
live_from (Retires k) f r = absurd (false≢true (sym r))
live_from Free f r = absurd (false≢true (sym f))

-- a space that is not free was not, and keeps its ASID; or it was created
pub record WasKept (C : Setup) (event : Event) (r : Reply) (H : History) (s : ℕ) : Type 0 where
  pub kept : is_free (status_of H s) ≡ false
  pub same : asid_of C (turn_of event r ∷ H) s ≡ asid_of C H s

pub record WasCreated (C : Setup) (event : Event) (r : Reply) (H : History) (s : ℕ) : Type 0 where
  pub hart : ℕ
  pub asid : ℕ
  pub is : event ≡ Create hart s asid
  pub found : CreateFound C H s asid
  pub same : asid_of C (turn_of event r ∷ H) s ≡ asid

module _ (C : Setup) where
  created_cases : (hart space asid : ℕ) (r : Reply) (H : History) (s : ℕ) → r ≡ due C H (Create hart space asid) → (t : Bool) → (is_ok r && eqb space s) ≡ t
      → is_free (cond t Live (status_of H s)) ≡ false
      → ((is_free (status_of H s) ≡ false) × (cond t asid (asid_of C H s) ≡ asid_of C H s)) ⊎ (CreateFound C H s asid × (space ≡ s) × (cond t asid (asid_of C H s) ≡ asid))
  created_cases hart space asid r H s d true z e =
      let p = and_parts (is_ok r) (eqb space s) z in
      let same : space ≡ s = eqb-true space s p.1 in
      inr (subst (λ x. CreateFound C H x asid) same (create_found C H hart space asid r d p.0), same, refl)
  created_cases hart space asid r H s d false z e = inl (e, refl)

  pub kept_cases : (event : Event) (r : Reply) (H : History) (s : ℕ) → r ≡ due C H event → is_free (status_of (turn_of event r ∷ H) s) ≡ false
      → WasKept C event r H s ⊎ WasCreated C event r H s
  kept_cases (Retire hart space) r H s d e =
      by_test (λ v. is_free (cond v (Retires (length H)) (status_of H s)) ≡ false → WasKept C (Retire hart space) r H s ⊎ WasCreated C (Retire hart space) r H s) (is_opened r && eqb space s)
      (λ z _. let p = and_parts (is_opened r) (eqb space s) z in
      let t = opened_some r p.0 in
      let found = retire_found C H hart space t.0 r d t.1 in
      inl (record { kept = ap (λ x. is_free (status_of H x)) (sym (eqb-true space s p.1)) ∙ (space_is C H space found.there).1; same = refl }))
      (λ _ e. inl (record { kept = e; same = refl })) e
  kept_cases (Reclaim hart space) r H s d e =
      by_test (λ v. is_free (cond v Free (status_of H s)) ≡ false → WasKept C (Reclaim hart space) r H s ⊎ WasCreated C (Reclaim hart space) r H s) (is_ok r && eqb space s)
      (λ _ e. absurd (false≢true (sym e))) (λ _ e. inl (record { kept = e; same = refl })) e
  kept_cases (Create hart space asid) r H s d e = elim (created_cases hart space asid r H s d (is_ok r && eqb space s) refl e) [
    | inl old ↦ inl (record { kept = old.0; same = old.1 })
    | inr new ↦ inr (record { hart = hart; asid = asid; is = ap (λ x. Create hart x asid) new.1; found = new.0; same = new.2 })
  ]
  kept_cases _ r H s d e = inl (record { kept = e; same = refl })

  module _ (setup : IsSetup C) where
    -- ASIDs differ
    differ_with : (event : Event) (r : Reply) (H : History) (s t : ℕ) → AsidsDiffer C H → s < length C.asids → t < length C.asids
        → WasKept C event r H s ⊎ WasCreated C event r H s → WasKept C event r H t ⊎ WasCreated C event r H t
        → asid_of C (turn_of event r ∷ H) s ≡ asid_of C (turn_of event r ∷ H) t → s ≡ t
    differ_with event r H s t old has_s has_t (inl a) (inl b) e = old s t has_s has_t a.kept b.kept (sym a.same ∙ e ∙ b.same)
    differ_with event r H s t old has_s has_t (inl a) (inr b) e = absurd (asid_found C H b.asid (length C.asids) s b.found.unused has_s a.kept (sym a.same ∙ e ∙ b.same))
    differ_with event r H s t old has_s has_t (inr a) (inl b) e = absurd (asid_found C H a.asid (length C.asids) t a.found.unused has_t b.kept (sym b.same ∙ sym e ∙ a.same))
    differ_with event r H s t old has_s has_t (inr a) (inr b) e =
        let both : Create a.hart s a.asid ≡ Create b.hart t b.asid = sym a.is ∙ b.is in
        let same : s ≡ t = cc in
        same

    pub asids_differ : (H : History) → Lawful C H → AsidsDiffer C H
    asids_differ [] l = λ s t has_s has_t kept_s kept_t e. setup.asids.distinct s t has_s has_t e
    asids_differ (turn ∷ H) l = λ s t has_s has_t kept_s kept_t e.
        differ_with turn.event turn.reply H s t (asids_differ H l.0) has_s has_t (kept_cases turn.event turn.reply H s l.1 kept_s) (kept_cases turn.event turn.reply H t l.1 kept_t) e

    pub asid_bound : (H : History) (s : ℕ) → Lawful C H → HavePages H → s < length C.asids → asid_of C H s < 2 ^ ASID_BITS
    asid_bound [] s l has there = setup.asids.bound s there
    asid_bound (turn ∷ H) s l has there = bound_step turn.event turn.reply has.1 (asid_bound H s l.0 has.0 there)
      where
        bound_step : (event : Event) (r : Reply) → HasPage event → asid_of C H s < 2 ^ ASID_BITS → asid_after event r s (asid_of C H s) < 2 ^ ASID_BITS
        bound_step (Create hart space asid) r bound old = by_test (λ v. cond v asid (asid_of C H s) < 2 ^ ASID_BITS) (is_ok r && eqb space s) (λ _. bound) (λ _. old)
        bound_step _ r bound old = old

    -- a hart is in a live space
    unused_by : (H : History) (space h : ℕ) → is_in_use C H space ≡ false → h < C.harts → space_of H h ≡ space → ⊥
    unused_by H space h e there is =
        let empty = not-false (is_empty (harts_where (λ i. is_hart C i && eqb (space_of H i) space))) e in
        let out = none_where (λ i. is_hart C i && eqb (space_of H i) space) h empty (omega (arith, setup.harts, there)) in
        false≢true (sym out ∙ and_from (is_hart C h) (eqb (space_of H h) space) (lt-ltb h C.harts there) (eq-eqb (space_of H h) space is))

    not_live : (H : History) (status : Status) (s t : ℕ) → status_of H s ≡ Live → status_of H t ≡ status → (status ≡ Live → ⊥) → t ≡ s → ⊥
    not_live H status s t live is apart same = apart (sym is ∙ ap (status_of H) same ∙ live)

    live_step : (event : Event) (r : Reply) (H : History) (h : ℕ) → r ≡ due C H event → h < C.harts → status_of H (space_of H h) ≡ Live
        → status_of (turn_of event r ∷ H) (space_of (turn_of event r ∷ H) h) ≡ Live
    live_step (Switch b s) r H h d there old =
        by_test (λ v. status_of H (cond v s (space_of H h)) ≡ Live) (is_ok r && eqb b h)
        (λ z. let a = ok_accepted r (and_parts (is_ok r) (eqb b h) z).0 in
        let p = passed _ NoHart _ r (sym d) a in
        let q = passed (not (is_space C H s)) NoSpace _ r p.1 a in
        let v = passed (is_retiring (status_of H s)) Retiring _ r q.1 a in
        live_from (status_of H s) (space_is C H s (not-false (is_space C H s) q.0)).1 v.0)
        (λ _. old)
    live_step (Retire hart space) r H h d there old =
        by_test (λ v. cond v (Retires (length H)) (status_of H (space_of H h)) ≡ Live) (is_opened r && eqb space (space_of H h))
        (λ z. let p = and_parts (is_opened r) (eqb space (space_of H h)) z in
        let t = opened_some r p.0 in
        absurd (unused_by H space h (retire_found C H hart space t.0 r d t.1).unused there (sym (eqb-true space (space_of H h) p.1))))
        (λ _. old)
    live_step (Reclaim hart space) r H h d there old =
        by_test (λ v. cond v Free (status_of H (space_of H h)) ≡ Live) (is_ok r && eqb space (space_of H h))
        (λ z. let p = and_parts (is_ok r) (eqb space (space_of H h)) z in
        let found = reclaim_found C H hart space r d p.0 in
        let both : Retires found.order ≡ Live = sym found.retiring ∙ ap (status_of H) (eqb-true space (space_of H h) p.1) ∙ old in
        absurd (cc (both)))
        (λ _. old)
    live_step (Create hart space asid) r H h d there old =
        by_test (λ v. cond v Live (status_of H (space_of H h)) ≡ Live) (is_ok r && eqb space (space_of H h)) (λ _. refl) (λ _. old)
    live_step _ r H h d there old = old

    pub live_hart : (H : History) (h : ℕ) → Lawful C H → h < C.harts → status_of H (space_of H h) ≡ Live
    live_hart [] h l there = refl
    live_hart (turn ∷ H) h l there = live_step turn.event turn.reply H h l.1 there (live_hart H h l.0 there)

    -- a fill is by a hart that exists
    filled_accepted : (r : Reply) → is_filled r ≡ true → is_accepted r ≡ true
    filled_accepted (reply.Filled pa) e = refl
    filled_accepted _ e = absurd (false≢true e)

    pub fill_hart : (turn : Turn) (H : History) (h : ℕ) (e : Entry) → turn.reply ≡ due C H turn.event → Fills C h e turn H → h < C.harts
    fill_hart turn H h e d f =
        let p = passed (not (is_hart C h)) NoHart _ turn.reply (sym (d ∙ ap (due C H) f.event)) (filled_accepted turn.reply f.accepted) in
        ltb-true h C.harts (not-false (is_hart C h) p.0)

    -- a hart that does not exist holds nothing
    pub nobody_holds : (H : History) (h : ℕ) → Lawful C H → C.harts ≤ h → All (λ e. ⊥) (entries_of C H h)
    nobody_holds [] h l beyond = All-nil (λ e. ⊥)
    nobody_holds (turn ∷ H) h l beyond =
        entries_each C turn.event turn.reply H h (λ e. ⊥) (nobody_holds H h l.0 beyond) (λ e f. let there = fill_hart turn H h e l.1 f in omega arith)

    -- the order of a retirement
    pub record IsRetirement (H : History) (s k : ℕ) : Type 0 where
      pub order : Order
      pub is : order_at C H k ≡ Some order
      pub sender : order.sender ≡ home_of C.layout (Space s)
      pub what : order.what ≡ SpaceOf (asid_of C H s)
      pub named : order.named ≡ harts_where (is_hart C)

    retirement_later : (turn : Turn) (H : History) (s k : ℕ) → Lawful C H → asid_of C (turn ∷ H) s ≡ asid_of C H s → IsRetirement H s k → IsRetirement (turn ∷ H) s k
    retirement_later turn H s k l same o = record {
      order = o.order;
      is = order_stays C turn H k (known C H k o.order l o.is).below ∙ o.is;
      sender = o.sender;
      what = o.what ∙ ap SpaceOf (sym same);
      named = o.named;
    }

    retired_now : (hart space ticket : ℕ) (r : Reply) (H : History) (s k : ℕ) → opened_ticket r ≡ Some ticket → hart ≡ home_of C.layout (Space space) → space ≡ s → length H ≡ k
        → IsRetirement (turn_of (Retire hart space) r ∷ H) s k
    retired_now hart space ticket r H s k t home same at = record {
      order = record { sender = hart; ticket = ticket; named = harts_where (is_hart C); what = SpaceOf (asid_of C H space); cause = Flushed };
      is = rw (t, eq-eqb (length H) k at) refl;
      sender = home ∙ ap (λ x. home_of C.layout (Space x)) same;
      what = ap (λ x. SpaceOf (asid_of C H x)) same;
      named = refl;
    }

    retired_step : (event : Event) (r : Reply) (H : History) (s k : ℕ) → r ≡ due C H event → Lawful C H → ((j : ℕ) → status_of H s ≡ Retires j → IsRetirement H s j)
        → status_of (turn_of event r ∷ H) s ≡ Retires k → IsRetirement (turn_of event r ∷ H) s k
    retired_step (Retire hart space) r H s k d l old e =
        by_test (λ v. cond v (Retires (length H)) (status_of H s) ≡ Retires k → IsRetirement (turn_of (Retire hart space) r ∷ H) s k) (is_opened r && eqb space s)
        (λ z q. let p = and_parts (is_opened r) (eqb space s) z in
        let t = opened_some r p.0 in
        let at : length H ≡ k = cc in
        retired_now hart space t.0 r H s k t.1 (retire_found C H hart space t.0 r d t.1).home (eqb-true space s p.1) at)
        (λ _ q. retirement_later (turn_of (Retire hart space) r) H s k l refl (old k q)) e
    retired_step (Reclaim hart space) r H s k d l old e =
        by_test (λ v. cond v Free (status_of H s) ≡ Retires k → IsRetirement (turn_of (Reclaim hart space) r ∷ H) s k) (is_ok r && eqb space s)
        (λ _ q. absurd (cc (q))) (λ _ q. retirement_later (turn_of (Reclaim hart space) r) H s k l refl (old k q)) e
    retired_step (Create hart space asid) r H s k d l old e =
        by_test (λ v. (is_ok r && eqb space s) ≡ v → cond v Live (status_of H s) ≡ Retires k → IsRetirement (turn_of (Create hart space asid) r ∷ H) s k) (is_ok r && eqb space s)
        (λ _ _ q. absurd (cc (q)))
        (λ _ z q. retirement_later (turn_of (Create hart space asid) r) H s k l (ap (λ v. cond v asid (asid_of C H s)) z) (old k q)) refl e
    retired_step event r H s k d l old e = retirement_later (turn_of event r) H s k l refl (old k e)

    pub retirement : (H : History) (s k : ℕ) → Lawful C H → status_of H s ≡ Retires k → IsRetirement H s k
    retirement [] s k l e = absurd (cc (e))
    retirement (turn ∷ H) s k l e = retired_step turn.event turn.reply H s k l.1 l.0 (λ j q. retirement H s j l.0 q) e

    -- an entry of a live space is not dropped by the request of a retiring one
    other_served : (H : History) (s t : ℕ) (e : Entry) → Lawful C H → HavePages H → s < length C.asids → t < length C.asids → is_free (status_of H s) ≡ false → status_of H t ≡ Live
        → (status_of H s ≡ Live → ⊥) → e.asid ≡ asid_of C H t → is_dropped (SpaceOf (asid_of C H s)) e ≡ false
    other_served H s t e l pages has_s has_t kept live apart is =
        let whole : asid_of C H s % 2 ^ ASID_BITS ≡ asid_of C H s = (let b = asid_bound H s l pages has_s in omega arith) in
        let differ : e.asid ≡ asid_of C H s % 2 ^ ASID_BITS → ⊥ = λ q.
        let same : s ≡ t = asids_differ H l s t has_s has_t kept (ap is_free live) (sym (sym is ∙ q ∙ whole)) in
        apart (ap (status_of H) same ∙ live)
        in
        and_none (not e.global) (eqb e.asid (asid_of C H s % 2 ^ ASID_BITS)) (ne_eqb e.asid (asid_of C H s % 2 ^ ASID_BITS) differ)
      where
        and_none : (a b : Bool) → b ≡ false → (a && b) ≡ false
        and_none true b e = e
        and_none false b e = refl

    -- whoever has acknowledged the retirement holds nothing of the space
    abbrev pub Unserved : ℕ → Entry → Type 0
    Unserved asid e = is_dropped (SpaceOf asid) e ≡ false

    -- a space that retires did, or the turn retired it
    retires_cases : (event : Event) (r : Reply) (H : History) (s k : ℕ) → status_of (turn_of event r ∷ H) s ≡ Retires k
        → ((status_of H s ≡ Retires k) × (asid_of C (turn_of event r ∷ H) s ≡ asid_of C H s)) ⊎ (length H ≡ k)
    retires_cases (Retire hart space) r H s k e =
        by_test (λ v. cond v (Retires (length H)) (status_of H s) ≡ Retires k → ((status_of H s ≡ Retires k) × (asid_of C H s ≡ asid_of C H s)) ⊎ (length H ≡ k)) (is_opened r && eqb space s)
        (λ _ q. let at : length H ≡ k = cc in inr at) (λ _ q. inl (q, refl)) e
    retires_cases (Reclaim hart space) r H s k e =
        by_test (λ v. cond v Free (status_of H s) ≡ Retires k → ((status_of H s ≡ Retires k) × (asid_of C H s ≡ asid_of C H s)) ⊎ (length H ≡ k)) (is_ok r && eqb space s)
        (λ _ q. absurd (cc (q))) (λ _ q. inl (q, refl)) e
    retires_cases (Create hart space asid) r H s k e =
        by_test (λ v. cond v Live (status_of H s) ≡ Retires k → ((status_of H s ≡ Retires k) × (cond v asid (asid_of C H s) ≡ asid_of C H s)) ⊎ (length H ≡ k)) (is_ok r && eqb space s)
        (λ _ q. absurd (cc (q))) (λ _ q. inl (q, refl)) e
    retires_cases _ r H s k e = inl (e, refl)

    pub retired_holds : (H : History) (s k h : ℕ) → Lawful C H → HavePages H → s < length C.asids → status_of H s ≡ Retires k → is_acked C H k h ≡ true
        → All (Unserved (asid_of C H s)) (entries_of C H h)
    retired_holds [] s k h l pages has e acked = absurd (cc (e))
    retired_holds (turn ∷ H) s k h l pages has e acked =
        elim (retires_cases turn.event turn.reply H s k e) [
          | inr at ↦ absurd (let below = acked_before C turn H k h l.0 acked in omega arith)
          | inl old ↦ subst (λ a. All (Unserved a) (entries_of C (turn ∷ H) h)) (sym old.1)
              (elim (cases_Bool (is_acked C H k h)) [
                | inl y ↦ entries_each C turn.event turn.reply H h (Unserved (asid_of C H s)) (retired_holds H s k h l.0 pages.0 has old.0 y)
                    (λ x f. let there = fill_hart turn H h x l.1 f in
                    other_served H s (space_of H h) x l.0 pages.0 has (space_there C H h setup.asids l.0) (ap is_free old.0) (live_hart H h l.0 there)
                    (λ q. let both : Retires k ≡ Live = sym old.0 ∙ q in cc (both)) (ap (λ (z : Entry). z.asid) f.is))
                | inr n ↦ let o = retirement H s k l.0 old.0 in
                    let what : what_asked (order_at C H k) ≡ SpaceOf (asid_of C H s) = ap what_asked o.is ∙ o.what in
                    All-weaker (λ x. not (is_dropped (what_asked (order_at C H k)) x) ≡ true) (Unserved (asid_of C H s))
                    (λ x d. ap (λ w. is_dropped w x) (sym what) ∙ not-true (is_dropped (what_asked (order_at C H k)) x) d)
                    (entries_of C (turn ∷ H) h) (acknowledged C turn H k h l n acked)
              ])
        ]

    -- a reclaimed space was retiring, and each hart has acknowledged it
    pub reclaimed_acked : (hart space : ℕ) (r : Reply) (H : History) (h : ℕ) → Lawful C H → r ≡ due C H (Reclaim hart space) → is_ok r ≡ true → h < C.harts
        → (k : ℕ) × (status_of H space ≡ Retires k) × (space < length C.asids) × (is_acked C H k h ≡ true)
    reclaimed_acked hart space r H h l d z there =
        let f = reclaim_found C H hart space r d z in
        let o = retirement H space f.order l f.retiring in
        let low : h < MAX_HARTS = omega (arith, setup.harts, there) in
        let out : (names (order_at C H f.order) h && not (is_collected C H f.order h)) ≡ false =
        none_where (λ i. names (order_at C H f.order) i && not (is_collected C H f.order i)) h f.done low
        in
        let named : names (order_at C H f.order) h ≡ true = ap (λ x. names x h) o.is ∙ ap (λ x. contains x h) o.named ∙ contains_where (is_hart C) h low ∙ lt-ltb h C.harts there in
        let collected : is_collected C H f.order h ≡ true = not-false (is_collected C H f.order h) (rw named at out) in
        (f.order, f.retiring, f.there, collected_acked C H f.order h collected)

    -- an entry of a used ASID keeps a space that has it
    abbrev pub Reclaims : Event → Reply → ℕ → Type 0
    Reclaims (Reclaim hart space) r s = (is_ok r ≡ true) × (space ≡ s)
    Reclaims _ r s = ⊥

    pub used_step : (event : Event) (r : Reply) (H : History) (s a : ℕ) → r ≡ due C H event → HasAsid C H s a → (Reclaims event r s → ⊥) → HasAsid C (turn_of event r ∷ H) s a
    used_step (Retire hart space) r H s a d u none = record {
      there = u.there;
      kept = by_test (λ v. is_free (cond v (Retires (length H)) (status_of H s)) ≡ false) (is_opened r && eqb space s) (λ _. refl) (λ _. u.kept);
      same = u.same;
    }
    used_step (Reclaim hart space) r H s a d u none = record {
      there = u.there;
      kept = by_test (λ v. is_free (cond v Free (status_of H s)) ≡ false) (is_ok r && eqb space s)
          (λ z. let p = and_parts (is_ok r) (eqb space s) z in absurd (none (p.0, eqb-true space s p.1))) (λ _. u.kept);
      same = u.same;
    }
    used_step (Create hart space asid) r H s a d u none = record {
      there = u.there;
      kept = by_test (λ v. is_free (cond v Live (status_of H s)) ≡ false) (is_ok r && eqb space s) (λ _. refl) (λ _. u.kept);
      same = by_test (λ v. cond v asid (asid_of C H s) ≡ a) (is_ok r && eqb space s)
          (λ z. let p = and_parts (is_ok r) (eqb space s) z in
          let free = (create_found C H hart space asid r d p.0).free in
          absurd (true≢false (sym free ∙ ap (λ x. is_free (status_of H x)) (eqb-true space s p.1) ∙ u.kept)))
          (λ _. u.same);
    }
    used_step _ r H s a d u none = record { there = u.there; kept = u.kept; same = u.same }

    gone_entry : (event : Event) (r : Reply) (H : History) (h : ℕ) (e : Entry) (s : ℕ) → Lawful C H → HavePages H → r ≡ due C H event → h < C.harts → e.global ≡ false → HasAsid C H s e.asid
        → ((k : ℕ) → status_of H s ≡ Retires k → is_acked C H k h ≡ true → is_dropped (SpaceOf (asid_of C H s)) e ≡ false) → Reclaims event r s → ⊥
    gone_entry (Reclaim hart space) r H h e s l pages d there g u none c =
        let a = reclaimed_acked hart space r H h l d c.0 there in
        let same : status_of H s ≡ Retires a.0 = ap (status_of H) (sym c.1) ∙ a.1 in
        let unserved = none a.0 same a.3 in
        let whole : asid_of C H s % 2 ^ ASID_BITS ≡ asid_of C H s = (let b = asid_bound H s l pages u.there in omega arith) in
        false≢true (sym unserved ∙ and_from (not e.global) (eqb e.asid (asid_of C H s % 2 ^ ASID_BITS)) (ap not g) (eq-eqb e.asid (asid_of C H s % 2 ^ ASID_BITS) (sym u.same ∙ sym whole)))
    gone_entry _ r H h e s l pages d there g u none c = c

    pub load_no_reclaim : (event : Event) (r : Reply) (s b : ℕ) → event ≡ Load b → Reclaims event r s → ⊥
    load_no_reclaim (Reclaim hart space) r s b e c = cc (e)
    load_no_reclaim _ r s b e c = c

    holds_here : (H : History) (h : ℕ) → Lawful C H → HavePages H → h < C.harts → HoldsUsedAsids C H (entries_of C H h)
    holds_here [] h l pages there = All-nil (IsOfUsedAsid C [])
    holds_here (turn ∷ H) h l pages there =
        let old = holds_here H h l.0 pages.0 there in
        entries_each C turn.event turn.reply H h (IsOfUsedAsid C (turn ∷ H))
        (λ i d within. let e = slice_index_or (entries_of C H h) i d in
        λ g. let u = old i d within g in
        let none = gone_entry turn.event turn.reply H h e u.0 l.0 pages.0 l.1 there g u.1
        (λ k is acked. retired_holds H u.0 k h l.0 pages.0 u.1.there is acked i d within)
        in
        (u.0, used_step turn.event turn.reply H u.0 e.asid l.1 u.1 none))
        (λ e f g. let live = live_hart H h l.0 there in
        let before : HasAsid C H (space_of H h) e.asid =
        record { there = space_there C H h setup.asids l.0; kept = ap is_free live; same = sym (ap (λ (z : Entry). z.asid) f.is) }
        in
        (space_of H h, used_step turn.event turn.reply H (space_of H h) e.asid l.1 before (λ c. load_no_reclaim turn.event turn.reply (space_of H h) h f.event c)))

    pub holds_used : (H : History) (h : ℕ) → Lawful C H → HavePages H → HoldsUsedAsids C H (entries_of C H h)
    holds_used H h l pages = elim (cases_lt h C.harts) [
      | inl there ↦ holds_here H h l pages there
      | inr beyond ↦ All-weaker (λ e. ⊥) (IsOfUsedAsid C H) (λ e none. absurd none) (entries_of C H h) (nobody_holds H h l beyond)
    ]
