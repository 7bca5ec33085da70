-- When a Retire, a Reclaim and a Create are accepted.
use Rattle.std.proofs.Common.{◌≡◌, ℕ, zero, suc, ◌<◌, ◌≤◌, Bool, true, false, ◌&&◌, ◌||◌, not, length, Option, Some, None, refl, ap, sym, ◌∙◌, eqb, inl, inr, arith}
use Rattle.std.specs.Prelude.{◌↔◌, ◌≢◌}
use Rattle.std.proofs.lemmas.Bool.{and_parts, and_from, eqb-true, eq-eqb, ne_eqb, cases_eq, cases_lt, false≢true, not-false, not-true, ltb-true, lt-ltb, le-ltb, or_parts}
use Rattle.spaces.specs.Layout.{home_of}
use Rattle.spaces.specs.declared.places.Place.TheVariants.{Space}
use Rattle.shoot.specs.HartSet.{harts_where, is_empty}
use Rattle.pte.specs.declared.TheConstants.{MAX_HARTS}
use Rattle.shoot.specs.declared.TheConstants.{MAX_TICKETS}
use Rattle.history.specs.Setup.{Setup, is_hart}
use Rattle.history.specs.declared.event.Event.TheVariants.{Retire, Reclaim, Create}
use Rattle.history.specs.declared.refusal.Refusal.{Refusal}
use Rattle.history.specs.declared.refusal.Refusal.TheVariants.{NoHart, NoSpace, NotHome, Retiring, InUse, NotAcked, NotFree, AsidInUse}
use Rattle.history.specs.declared.reply.Reply.{Reply}
use Rattle.history.specs.declared.reply.Reply.TheVariants as reply
use Rattle.history.specs.Turns.{History}
use Rattle.history.specs.Spaces.{Status, Live, Retires, Free, status_of, is_free, is_retiring, asid_of}
use Rattle.pte.specs.declared.address.What.TheVariants.{SpaceOf}
use Rattle.history.specs.Orders.{Order, Flushed, order_at, opened_order}
use Rattle.history.specs.Acknowledgements.{is_collected}
use Rattle.history.specs.Harts.{space_of}
use Rattle.history.specs.Due.{due, is_number, is_space, is_in_use, is_asid_of, is_done, names, least_free, opened_reply, reclaim_reply}
use Rattle.history.specs.Occurrences.{IsRetire}
use Rattle.history.specs.Retirements.{IsAtHome, CanRetire, IsCollected, CanReclaim, CanCreate}
use Rattle.history.proofs.Passing.{is_accepted, passed, refuse}
use Rattle.history.proofs.LeastFree.{least_is}
use Rattle.history.proofs.NoHarts.{none_where, where_none}
use Rattle.history.proofs.OpenOrders.{placed}
use Rattle.history.proofs.Statuses.{retires}

-- a test that does not refuse
behind : (test : Bool) (why : Refusal) (rest r : Reply) → test ≡ false → rest ≡ r → refuse test why rest ≡ r
behind test why rest r off e = ap (λ b. refuse b why rest) off ∙ e

-- an ASID that one of the first n spaces has, or none of them
pub asid_found : (C : Setup) (H : History) (asid n s : ℕ) → is_asid_of C H asid n ≡ false → s < n → is_free (status_of H s) ≡ false → asid_of C H s ≡ asid → ⊥
asid_found C H asid zero s e less kept same = omega arith
asid_found C H asid (suc n) s e less kept same =
    let p = or_parts (not (is_free (status_of H n)) && eqb (asid_of C H n) asid) (is_asid_of C H asid n) e in
    elim (cases_eq s n) [
      | inl at ↦
          let kept' : is_free (status_of H n) ≡ false = ap (λ x. is_free (status_of H x)) (sym at) ∙ kept in
          let same' : asid_of C H n ≡ asid = ap (asid_of C H) (sym at) ∙ same in
          false≢true (sym p.0 ∙ and_from (not (is_free (status_of H n))) (eqb (asid_of C H n) asid) (ap not kept') (eq-eqb (asid_of C H n) asid same'))
      | inr apart ↦ asid_found C H asid n s p.1 (omega (arith, less, apart)) kept same
    ]

asid_unused : (C : Setup) (H : History) (asid n : ℕ) → ((s : ℕ) → s < n → is_free (status_of H s) ≡ false → asid_of C H s ≢ asid) → is_asid_of C H asid n ≡ false
asid_unused C H asid zero none = refl
asid_unused C H asid (suc n) none =
    let rest = asid_unused C H asid n (λ s less kept. none s (omega (arith, less)) kept) in
    by_free (is_free (status_of H n)) refl rest
  where
    by_free : (f : Bool) → is_free (status_of H n) ≡ f → is_asid_of C H asid n ≡ false → ((not f && eqb (asid_of C H n) asid) || is_asid_of C H asid n) ≡ false
    by_free true e rest = rest
    by_free false e rest = ap (λ b. b || is_asid_of C H asid n) (ne_eqb (asid_of C H n) asid (none n (omega arith) e)) ∙ rest

-- the status by its tests
live_is : (status : Status) → is_free status ≡ false → is_retiring status ≡ false → status ≡ Live
live_is Live f r = refl
live_is (Retires k) f r = absurd (false≢true (sym r))
live_is Free f r = absurd (false≢true (sym f))

free_is : (status : Status) → is_free status ≡ true → status ≡ Free
free_is Live f = absurd (false≢true f)
free_is (Retires k) f = absurd (false≢true f)
free_is Free f = refl

-- no hart is in a space
module _ (C : Setup) (H : History) (space : ℕ) where
  abbrev inside : ℕ → Bool
  inside h = is_hart C h && eqb (space_of H h) space

  nobody : is_in_use C H space ≡ false → C.harts ≤ MAX_HARTS → (h : ℕ) → h < C.harts → space_of H h ≢ space
  nobody e few h less is =
      let out = none_where inside h (not-false (is_empty (harts_where inside)) e) (omega (arith, few, less)) in
      false≢true (sym out ∙ and_from (is_hart C h) (eqb (space_of H h) space) (lt-ltb h C.harts less) (eq-eqb (space_of H h) space is))

  outside : ((h : ℕ) → h < C.harts → space_of H h ≢ space) → is_in_use C H space ≡ false
  outside none = ap not (where_none inside (λ h low. elim (cases_lt h C.harts) [
    | inl less ↦ ap (λ b. b && eqb (space_of H h) space) (lt-ltb h C.harts less) ∙ ne_eqb (space_of H h) space (none h less)
    | inr beyond ↦ ap (λ b. b && eqb (space_of H h) space) (le-ltb h C.harts beyond)
  ]))

-- each named hart is collected
module _ (C : Setup) (H : History) (k : ℕ) (order : Order) (is : order_at C H k ≡ Some order) where
  abbrev missing : ℕ → Bool
  missing h = names (order_at C H k) h && not (is_collected C H k h)

  all_collected : is_done C H k ≡ true → IsCollected C H order k
  all_collected done h low named =
      let out = none_where missing h done low in
      let known : names (order_at C H k) h ≡ true = ap (λ o. names o h) is ∙ named in
      not-false (is_collected C H k h) (sym (ap (λ b. b && not (is_collected C H k h)) known) ∙ out)

  done_once : IsCollected C H order k → is_done C H k ≡ true
  done_once all = where_none missing (λ h low. by_named (names (order_at C H k) h) h low refl)
    where
      by_named : (b : Bool) (h : ℕ) → h < MAX_HARTS → names (order_at C H k) h ≡ b → (b && not (is_collected C H k h)) ≡ false
      by_named true h low e = ap not (all h low (sym (ap (λ o. names o h) is) ∙ e))
      by_named false h low e = refl

module _ (C : Setup) (H : History) (hart space : ℕ) where
  at_home : not (is_hart C hart) ≡ false → is_number C space ≡ true → not (eqb hart (home_of C.layout (Space space))) ≡ false → IsAtHome C hart space
  at_home h s n = record {
    hart_there = ltb-true hart C.harts (not-false (is_hart C hart) h);
    space_there = ltb-true space (length C.asids) s;
    home = eqb-true hart (home_of C.layout (Space space)) (not-false (eqb hart (home_of C.layout (Space space))) n);
  }

  no_hart : IsAtHome C hart space → not (is_hart C hart) ≡ false
  no_hart a = ap not (lt-ltb hart C.harts a.hart_there)

  no_number : IsAtHome C hart space → not (is_number C space) ≡ false
  no_number a = ap not (lt-ltb space (length C.asids) a.space_there)

  no_space : IsAtHome C hart space → is_free (status_of H space) ≡ false → not (is_space C H space) ≡ false
  no_space a kept = ap not (and_from (is_number C space) (not (is_free (status_of H space))) (lt-ltb space (length C.asids) a.space_there) (ap not kept))

  not_home : IsAtHome C hart space → not (eqb hart (home_of C.layout (Space space))) ≡ false
  not_home a = ap not (eq-eqb hart (home_of C.layout (Space space)) a.home)

  space_parts : not (is_space C H space) ≡ false → (is_number C space ≡ true) × (is_free (status_of H space) ≡ false)
  space_parts e =
      let p = and_parts (is_number C space) (not (is_free (status_of H space))) (not-false (is_space C H space) e) in
      (p.0, not-true (is_free (status_of H space)) p.1)

  -- Retire
  ticket_is : (o : Option ℕ) (ticket : ℕ) → opened_reply o ≡ reply.Opened ticket → o ≡ Some ticket
  ticket_is None ticket e = absurd (false≢true (ap is_accepted e))
  ticket_is (Some t) ticket e = let same : t ≡ ticket = cc in ap Some same

  pub can_retire : (ticket : ℕ) → C.harts ≤ MAX_HARTS → (due C H (Retire hart space) ≡ reply.Opened ticket) ↔ CanRetire C H hart space ticket
  can_retire ticket few = (
    λ d. let p = passed _ NoHart _ (reply.Opened ticket) d refl in
        let q = passed _ NoSpace _ (reply.Opened ticket) p.1 refl in
        let n = passed _ NotHome _ (reply.Opened ticket) q.1 refl in
        let v = passed _ Retiring _ (reply.Opened ticket) n.1 refl in
        let u = passed _ InUse _ (reply.Opened ticket) v.1 refl in
        let there = space_parts q.0 in
        record {
          at_home = at_home p.0 there.0 n.0;
          live = live_is (status_of H space) there.1 v.0;
          left = nobody C H space u.0 few;
          least = (least_is H hart ticket).0 (ticket_is (least_free H hart MAX_TICKETS 0) ticket u.1);
        },
    λ c. behind _ NoHart _ _ (no_hart c.at_home)
        (behind _ NoSpace _ _ (no_space c.at_home (ap is_free c.live))
        (behind _ NotHome _ _ (not_home c.at_home)
        (behind _ Retiring _ _ (ap is_retiring c.live)
        (behind _ InUse _ _ (outside C H space c.left) (ap opened_reply ((least_is H hart ticket).1 c.least)))))),
  )

  -- Reclaim
  abbrev retirement : (hart space ticket : ℕ) → History → Order
  retirement hart space ticket H =
      record { sender = hart; ticket = ticket; named = harts_where (is_hart C); what = SpaceOf (asid_of C H space); cause = Flushed }

  retired_by : (k : ℕ) → status_of H space ≡ Retires k → (order : Order) × (order_at C H k ≡ Some order)
  retired_by k e =
      let since = (retires H space k).0 e in
      let turn : IsRetire space k since.turn since.earlier = since.so in
      let opened : (order : Order) × (opened_order C since.turn.event since.turn.reply since.earlier ≡ Some order) =
      (retirement turn.hart space turn.ticket since.earlier, rw (turn.event, turn.accepted) refl) in
      (opened.0, (placed C H k opened.0).1 (record { later = since.later; turn = since.turn; earlier = since.earlier; split = since.split; so = record { place = turn.place; opened = opened.1 } }))

  reclaimed : (status : Status) → status_of H space ≡ status → IsAtHome C hart space → reclaim_reply C H status ≡ reply.Ok → CanReclaim C H hart space
  reclaimed Live is home e = absurd (false≢true (ap is_accepted e))
  reclaimed (Retires k) is home e =
      let o = retired_by k is in
      let done = passed (not (is_done C H k)) NotAcked reply.Ok reply.Ok e refl in
      record { at_home = home; place = k; order = o.0; retiring = is; is = o.1; collected = all_collected C H k o.0 o.1 (not-false (is_done C H k) done.0) }
  reclaimed Free is home e = absurd (false≢true (ap is_accepted e))

  pub can_reclaim : (due C H (Reclaim hart space) ≡ reply.Ok) ↔ CanReclaim C H hart space
  can_reclaim = (
    λ d. let p = passed _ NoHart _ reply.Ok d refl in
        let q = passed _ NoSpace _ reply.Ok p.1 refl in
        let n = passed _ NotHome _ reply.Ok q.1 refl in
        reclaimed (status_of H space) refl (at_home p.0 (space_parts q.0).0 n.0) n.1,
    λ c. behind _ NoHart _ _ (no_hart c.at_home)
        (behind _ NoSpace _ _ (no_space c.at_home (ap is_free c.retiring))
        (behind _ NotHome _ _ (not_home c.at_home)
        (ap (reclaim_reply C H) c.retiring ∙ behind _ NotAcked _ _ (ap not (done_once C H c.place c.order c.is c.collected)) refl))),
  )

  -- Create
  pub can_create : (asid : ℕ) → (due C H (Create hart space asid) ≡ reply.Ok) ↔ CanCreate C H hart space asid
  can_create asid = (
    λ d. let p = passed _ NoHart _ reply.Ok d refl in
        let q = passed _ NoSpace _ reply.Ok p.1 refl in
        let n = passed _ NotHome _ reply.Ok q.1 refl in
        let f = passed _ NotFree _ reply.Ok n.1 refl in
        let u = passed _ AsidInUse _ reply.Ok f.1 refl in
        record {
          at_home = at_home p.0 (not-false (is_number C space) q.0) n.0;
          free = free_is (status_of H space) (not-false (is_free (status_of H space)) f.0);
          unused = λ s has. asid_found C H asid (length C.asids) s u.0 has.there has.kept has.same;
        },
    λ c. behind _ NoHart _ _ (no_hart c.at_home)
        (behind _ NoSpace _ _ (no_number c.at_home)
        (behind _ NotHome _ _ (not_home c.at_home)
        (behind _ NotFree _ _ (ap (λ s. not (is_free s)) c.free)
        (behind _ AsidInUse _ _ (asid_unused C H asid (length C.asids) (λ s less kept same. c.unused s (record { there = less; kept = kept; same = same }))) refl)))),
  )
