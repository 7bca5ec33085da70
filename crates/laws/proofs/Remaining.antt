-- What a hart that has acknowledged an order still holds of it was filled since, from a space that
-- has kept its ASID since.
use Rattle.std.proofs.Common.{◌≡◌, ℕ, ◌<◌, ◌⊎◌, true, false, not, [], ◌∷◌, ◌++◌, length, Option, Some, None, refl, ap, sym, ◌∙◌, subst, inl, inr, append_assoc}
use Rattle.std.specs.Prelude.{All}
use Rattle.std.proofs.lemmas.Bool.{cases_Bool, false≢true, not-true}
use Rattle.std.proofs.lemmas.List.Elements.{All-weaker}
use Rattle.tlb.specs.declared.store.Entry.{Entry}
use Rattle.tlb.specs.Service.{is_dropped}
use Rattle.history.specs.Setup.{Setup}
use Rattle.history.specs.Spaces.{is_free}
use Rattle.history.specs.Turns.{Turn, History}
use Rattle.history.specs.Orders.{order_at, what_asked}
use Rattle.history.specs.Harts.{space_of, entries_of}
use Rattle.history.specs.Acknowledgements.{is_acked}
use Rattle.history.specs.Due.{Lawful}
use Rattle.history.specs.Staleness.{HasAsid, Reaches, IsOfUsedAsid}
use Rattle.laws.specs.Fills.{Fills}
use Rattle.laws.specs.Kept.{HavePages, IsSetup}
use Rattle.laws.proofs.Orders.{order_stays}
use Rattle.laws.proofs.Acknowledged.{acked_below, acked_before}
use Rattle.laws.proofs.Filling.{entries_each, acknowledged}
use Rattle.laws.proofs.Causes.{space_there}
use Rattle.laws.proofs.Asids.{asid_found, kept_cases, WasKept, WasCreated, asids_differ, live_hart, fill_hart, used_step, load_no_reclaim, holds_used}

-- a page is reached through a space after some turns, and after each one since
pub ReachedSince : Setup → History → History → Option ℕ → ℕ → Type 0
ReachedSince C [] before of s = Reaches C before of s
ReachedSince C (turn ∷ later) before of s = ReachedSince C later before of s × Reaches C (turn ∷ (later ++ before)) of s

pub reached_last : (C : Setup) (later before : History) (of : Option ℕ) (s : ℕ) → ReachedSince C later before of s → Reaches C (later ++ before) of s
unfolding ReachedSince
reached_last C [] before of s r = r
reached_last C (turn ∷ later) before of s r = r.1

pub reached_rest : (C : Setup) (turn : Turn) (later before : History) (of : Option ℕ) (s : ℕ) → ReachedSince C (turn ∷ later) before of s
    → ReachedSince C later before of s × Reaches C (turn ∷ (later ++ before)) of s
unfolding ReachedSince
reached_rest C turn later before of s r = r

pub reached_join : (C : Setup) (later : History) (turn : Turn) (before : History) (of : Option ℕ) (s : ℕ) → ReachedSince C later (turn ∷ before) of s → Reaches C before of s
    → ReachedSince C (later ++ turn ∷ []) before of s
unfolding ReachedSince
reached_join C [] turn before of s r first = (first, r)
reached_join C (x ∷ later) turn before of s r first =
    (reached_join C later turn before of s r.0 first, subst (λ (G : History). Reaches C (x ∷ G) of s) (sym (append_assoc later (turn ∷ []) before)) r.1)

-- a kernel page is always reached through a space that exists
pub kernel_reached : (C : Setup) (later before : History) (s : ℕ) → s < length C.asids → ReachedSince C later before None s
unfolding ReachedSince
kernel_reached C [] before s there = there
kernel_reached C (turn ∷ later) before s there = (kernel_reached C later before s there, there)

-- the entry was filled once h had acknowledged the order k, and since then the space has kept the
-- ASID
pub record IsHeldSince (C : Setup) (H : History) (k h : ℕ) (e : Entry) : Type 0 where
  pub later : History
  pub turn : Turn
  pub earlier : History
  pub split : H ≡ later ++ turn ∷ earlier
  pub acked : is_acked C earlier k h ≡ true
  pub fills : Fills C h e turn earlier
  pub since : e.global ≡ false → ReachedSince C later (turn ∷ earlier) (Some e.asid) (space_of earlier h)

abbrev pub LeftOrHeld : Setup → History → ℕ → ℕ → Entry → Type 0
LeftOrHeld C H k h e = (is_dropped (what_asked (order_at C H k)) e ≡ false) ⊎ IsHeldSince C H k h e

module _ (C : Setup) (setup : IsSetup C) where
  -- the space that has an ASID after a turn is the one that had it before
  same_space : (turn : Turn) (H : History) (s t a : ℕ) → Lawful C (turn ∷ H) → HasAsid C H s a → HasAsid C (turn ∷ H) t a → HasAsid C (turn ∷ H) s a
  same_space turn H s t a l old new = by_kept (kept_cases C turn.event turn.reply H t l.1 new.kept)
    where
      by_kept : WasKept C turn.event turn.reply H t ⊎ WasCreated C turn.event turn.reply H t → HasAsid C (turn ∷ H) s a
      by_kept (inl was) =
          let same : t ≡ s = asids_differ C setup H l.0 t s new.there old.there was.kept old.kept (sym was.same ∙ new.same ∙ sym old.same) in
          subst (λ x. HasAsid C (turn ∷ H) x a) same new
      by_kept (inr made) = absurd (asid_found C H made.asid (length C.asids) s made.found.unused old.there old.kept (old.same ∙ sym new.same ∙ made.same))

  held_later : (turn : Turn) (H : History) (k h : ℕ) (e : Entry) → Lawful C (turn ∷ H) → IsOfUsedAsid C (turn ∷ H) e → IsHeldSince C H k h e → IsHeldSince C (turn ∷ H) k h e
  unfolding ReachedSince
  held_later turn H k h e l used o = record {
    later = turn ∷ o.later;
    turn = o.turn;
    earlier = o.earlier;
    split = ap (λ G. turn ∷ G) o.split;
    acked = o.acked;
    fills = o.fills;
    since = λ g.
        let last = reached_last C o.later (o.turn ∷ o.earlier) (Some e.asid) (space_of o.earlier h) (o.since g) in
        let here : HasAsid C H (space_of o.earlier h) e.asid = subst (λ (G : History). HasAsid C G (space_of o.earlier h) e.asid) (sym o.split) last in
        let u = used g in
        let now : HasAsid C (turn ∷ H) (space_of o.earlier h) e.asid = same_space turn H (space_of o.earlier h) u.0 e.asid l here u.1 in
        (o.since g, subst (λ (G : History). HasAsid C (turn ∷ G) (space_of o.earlier h) e.asid) o.split now);
  }

  left_held : (turn : Turn) (H : History) (k h : ℕ) → k < length H → Lawful C (turn ∷ H) → (e : Entry) → LeftOrHeld C H k h e → IsOfUsedAsid C (turn ∷ H) e → LeftOrHeld C (turn ∷ H) k h e
  left_held turn H k h below l e f used = elim f [
    | inl n ↦ inl (ap (λ o. is_dropped (what_asked o) e) (order_stays C turn H k below) ∙ n)
    | inr s ↦ inr (held_later turn H k h e l used s)
  ]

  held_now : (turn : Turn) (H : History) (k h : ℕ) (e : Entry) → Lawful C (turn ∷ H) → is_acked C H k h ≡ true → Fills C h e turn H → IsHeldSince C (turn ∷ H) k h e
  unfolding ReachedSince
  held_now turn H k h e l acked f =
      let live = live_hart C setup H h l.0 (fill_hart C setup turn H h e l.1 f) in
      let before : HasAsid C H (space_of H h) e.asid =
      record { there = space_there C H h setup.asids l.0; kept = ap is_free live; same = sym (ap (λ (z : Entry). z.asid) f.is) }
      in
      record {
        later = [];
        turn = turn;
        earlier = H;
        split = refl;
        acked = acked;
        fills = f;
        since = λ g. used_step C setup turn.event turn.reply H (space_of H h) e.asid l.1 before (λ c. load_no_reclaim C setup turn.event turn.reply (space_of H h) h f.event c);
      }

  pub held_since : (H : History) (k h : ℕ) → Lawful C H → HavePages H → is_acked C H k h ≡ true → All (LeftOrHeld C H k h) (entries_of C H h)
  held_since [] k h l pages e = absurd (false≢true e)
  held_since (turn ∷ H) k h l pages e =
      let used = holds_used C setup (turn ∷ H) h l pages in
      elim (cases_Bool (is_acked C H k h)) [
        | inl y ↦
            let below = acked_below C H k h l.0 y in
            let all = entries_each C turn.event turn.reply H h (λ x. IsOfUsedAsid C (turn ∷ H) x → LeftOrHeld C (turn ∷ H) k h x)
            (All-weaker (LeftOrHeld C H k h) (λ x. IsOfUsedAsid C (turn ∷ H) x → LeftOrHeld C (turn ∷ H) k h x) (λ x f. left_held turn H k h below l x f) (entries_of C H h)
            (held_since H k h l.0 pages.0 y))
            (λ x f _. inr (held_now turn H k h x l y f))
            in
            λ i d within. all i d within (used i d within)
        | inr n ↦
            let below = acked_before C turn H k h l.0 e in
            All-weaker (λ x. not (is_dropped (what_asked (order_at C H k)) x) ≡ true) (LeftOrHeld C (turn ∷ H) k h)
            (λ x d. inl (ap (λ o. is_dropped (what_asked o) x) (order_stays C turn H k below) ∙ not-true (is_dropped (what_asked (order_at C H k)) x) d))
            (entries_of C (turn ∷ H) h) (acknowledged C turn H k h l n e)
      ]
