-- What is reported of a run once some of its events were done.
use Rattle.std.proofs.Common.{add-one, ◌≡◌, ℕ, zero, suc, ◌+◌, ◌<◌, ◌≤◌, List, [], ◌∷◌, ◌++◌, length, Some, None, slice_get, ap, sym, ◌∙◌, subst, ◌⊎◌, inl, inr, arith}
use Rattle.std.specs.Prelude.{◌↔◌}
use Rattle.std.proofs.lemmas.Bool.{cases_lt}
use Rattle.std.proofs.lemmas.Option.{slice_get_within}
use Rattle.std.proofs.lemmas.List.Elements.{Contains-append_left, Contains-push, Contains-push_cases}
use Rattle.tlb.specs.Mappings.{Mapping}
use Rattle.history.specs.Setup.{Setup}
use Rattle.history.specs.declared.event.Event.{Event}
use Rattle.history.specs.Turns.{History}
use Rattle.history.specs.Due.{due}
use Rattle.history.specs.Runs.{with_turn}
use Rattle.stale.specs.declared.hits.StaleUse.{StaleUse}
use Rattle.stale.specs.declared.runs.UseAt.{UseAt}
use Rattle.stale.specs.Stale.{UsesStale}
use Rattle.stale.specs.Uses.{Tells}
use Rattle.stale.specs.UseRuns.{due_turn, history_at, IsTold, UsedAt}

history_next : (C : Setup) (H : History) (events : List Event) (n : ℕ) (event : Event) → slice_get events n ≡ Some event
    → history_at C H events (suc n) ≡ with_turn event (due C (history_at C H events n) event) (history_at C H events n)
history_next C H [] zero event e = absurd (cc)
history_next C H [] (suc n) event e = absurd (cc)
history_next C H (x ∷ xs) zero event e = let same : x ≡ event = cc in ap (λ (y : Event). with_turn y (due C H y) H) same
history_next C H (x ∷ xs) (suc n) event e = history_next C (with_turn x (due C H x) H) xs n event e

pub history_more : (C : Setup) (H : History) (events : List Event) (n : ℕ) (event : Event) → slice_get events n ≡ Some event
    → history_at C H events (n + 1) ≡ with_turn event (due C (history_at C H events n) event) (history_at C H events n)
history_more C H events n event e = ap (history_at C H events) (add-one n) ∙ history_next C H events n event e

-- what is reported is of the events below this number
abbrev pub AreTold : Setup → History → List Event → ℕ → List UseAt → Type 0
AreTold C H events i uses = (n h : ℕ) (m : Mapping) → ((n < i) × UsedAt C H events n h m) ↔ IsTold uses n h m

below_next : (n i : ℕ) → n < i + 1 → (n < i) ⊎ (n ≡ i)
below_next n i below = elim (cases_lt n i) [ inl less ↦ inl less | inr from ↦ inr (omega (arith, below, from)) ]

module _ (C : Setup) (H : History) (events : List Event) where
  pub told_first : AreTold C H events 0 []
  told_first n h m = (λ u. absurd (omega (arith, u.0)), λ t. absurd (omega (arith, t.among.1)))

  module _ (i : ℕ) (uses : List UseAt) (are : AreTold C H events i uses) (event : Event) (at : slice_get events i ≡ Some event) where
    here : (n h : ℕ) (m : Mapping) → n ≡ i → UsedAt C H events n h m → UsesStale C (due_turn C (history_at C H events i) event) (history_at C H events i) h m
    here n h m same u =
        let is : slice_get events i ≡ Some u.event = subst (λ (k : ℕ). slice_get events k ≡ Some u.event) same u.is in
        let event_is : u.event ≡ event = cc in
        subst (λ (e : Event). UsesStale C (due_turn C (history_at C H events i) e) (history_at C H events i) h m) event_is
        (subst (λ (k : ℕ). UsesStale C (due_turn C (history_at C H events k) u.event) (history_at C H events k) h m) same u.uses)

    pub told_past : ((h : ℕ) (m : Mapping) → UsesStale C (due_turn C (history_at C H events i) event) (history_at C H events i) h m ↔ Tells None h m) → AreTold C H events (i + 1) uses
    told_past none n h m = (
      λ u. elim (below_next n i u.0) [
        | inl less ↦ (are n h m).0 (less, u.1)
        | inr same ↦ absurd ((none h m).0 (here n h m same u.1))
      ],
      λ t. let u = (are n h m).1 t in let less = u.0 in (omega (arith, less), u.1),
    )

    pub told_more : (used : StaleUse) → ((h : ℕ) (m : Mapping) → UsesStale C (due_turn C (history_at C H events i) event) (history_at C H events i) h m ↔ Tells (Some used) h m)
        → AreTold C H events (i + 1) (uses ++ record { step = i; used = used } ∷ [])
    told_more used some n h m =
        let new : UseAt = record { step = i; used = used } in (
          λ u. elim (below_next n i u.0) [
            | inl less ↦ let t = (are n h m).0 (less, u.1) in record { told = t.told; among = Contains-append_left uses (new ∷ []) t.told t.among; step = t.step; tells = t.tells }
            | inr same ↦ record { told = new; among = Contains-push uses new; step = sym same; tells = (some h m).0 (here n h m same u.1) }
          ],
          λ t. elim (Contains-push_cases uses new t.told t.among) [
            | inl old ↦ let u = (are n h m).1 (record { told = t.told; among = old; step = t.step; tells = t.tells }) in let less = u.0 in (omega (arith, less), u.1)
            | inr is ↦ let same : i ≡ n = ap (λ (x : UseAt). x.step) is ∙ t.step in
                let tells : Tells (Some used) h m = subst (λ (x : UseAt). Tells (Some x.used) h m) (sym is) t.tells in
                subst (λ (k : ℕ). (k < i + 1) × UsedAt C H events k h m) same (omega arith, record { event = event; is = at; uses = (some h m).1 tells })
          ],
        )

  -- at the end
  pub told_all : (uses : List UseAt) (i : ℕ) → length events ≤ i → AreTold C H events i uses → (n h : ℕ) (m : Mapping) → UsedAt C H events n h m ↔ IsTold uses n h m
  told_all uses i all are n h m =
      (λ u. let within = slice_get_within events n u.event u.is in (are n h m).0 (omega (arith, within, all), u), λ t. ((are n h m).1 t).1)
