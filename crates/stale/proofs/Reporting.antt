-- What is reported of a run once some of its events were done, by the numbers of its steps.
use Rattle.std.proofs.Common.{◌≡◌, ℕ, ◌+◌, ◌<◌, ◌≤◌, List, [], length, Some, slice_get, ap, sym, ◌∙◌, subst, ◌⊎◌, inl, inr, arith}
use Rattle.std.specs.Prelude.{◌↔◌}
use Rattle.std.proofs.lemmas.Bool.{cases_lt}
use Rattle.std.proofs.lemmas.Option.{slice_get_within}
use Rattle.tlb.specs.declared.store.Entry.{Entry}
use Rattle.tlb.specs.Mappings.{Mapping}
use Rattle.history.specs.Setup.{Setup}
use Rattle.history.specs.declared.event.Event.{Event}
use Rattle.history.specs.Turns.{History, opened_ticket}
use Rattle.history.specs.Due.{due}
use Rattle.stale.specs.declared.items.StaleAt.{StaleAt}
use Rattle.stale.specs.declared.items.StaleItem.{StaleItem}
use Rattle.stale.specs.Stale.{BecomesStale, UsesStale}
use Rattle.stale.specs.Told.{BecomesAt, EntryBecomesAt, EntryBecomesStale, IsAmong, IsEditOf, IsToldBecoming, IsToldEntry, IsToldOrder, IsToldUse, OpensAt}
use Rattle.stale.specs.UseRuns.{due_turn, history_at, UsedAt}

-- event n of the first i, and its number
abbrev pub Below : (ℕ → Type 0) → ℕ → ℕ → Type 0
Below At i number = (n : ℕ) × (number ≡ n + 1) × (n < i) × At n

below_next : (n i : ℕ) → n < i + 1 → (n < i) ⊎ (n ≡ i)
below_next n i below = elim (cases_lt n i) [ inl less ↦ inl less | inr from ↦ inr (omega (arith, below, from)) ]

pub none_told : (T : StaleItem → Type 0) (number : ℕ) → IsAmong [] number T → ⊥
none_told T number t = omega (arith, t.among.1)

module _ (At : ℕ → Type 0) (i : ℕ) (Old New : ℕ → Type 0) (Here : Type 0) where
  pub next_both : ((k : ℕ) → Old k ↔ Below At i k) → ((k : ℕ) → New k ↔ (Old k ⊎ ((k ≡ i + 1) × Here))) → (Here ↔ At i) → (k : ℕ) → New k ↔ Below At (i + 1) k
  next_both old step here k = (
    λ t. elim ((step k).0 t) [
      | inl before ↦ let b = (old k).0 before in let less = b.2 in (b.0, b.1, omega (arith, less), b.3)
      | inr now ↦ (i, now.0, omega arith, here.0 now.1)
    ],
    λ b. (step k).1 (elim (below_next b.0 i b.2) [
      | inl less ↦ inl ((old k).1 (b.0, b.1, less, b.3))
      | inr same ↦ inr (b.1 ∙ ap (λ n. n + 1) same, here.1 (subst At same b.3))
    ]),
  )

  pub next_one : ((k : ℕ) → Old k → Below At i k) → ((k : ℕ) → New k → Old k ⊎ ((k ≡ i + 1) × Here)) → (Here → At i) → (k : ℕ) → New k → Below At (i + 1) k
  next_one old step here k t = elim (step k t) [
    | inl before ↦ let b = old k before in let less = b.2 in (b.0, b.1, omega (arith, less), b.3)
    | inr now ↦ (i, now.0, omega arith, here now.1)
  ]

module _ (C : Setup) (H : History) (events : List Event) where
  abbrev pub ToldBecoming : ℕ → List StaleAt → Type 0
  ToldBecoming i items = (h : ℕ) (m : Mapping) (number : ℕ) → IsToldBecoming items number h m ↔ Below (λ n. BecomesAt C H events n h m) i number

  abbrev pub ToldEntry : ℕ → List StaleAt → Type 0
  ToldEntry i items = (h : ℕ) (e : Entry) (number : ℕ) → IsToldEntry items number h e ↔ Below (λ n. EntryBecomesAt C H events n h e) i number

  abbrev pub ToldUses : ℕ → List StaleAt → Type 0
  ToldUses i items = (h : ℕ) (m : Mapping) (number : ℕ) → IsToldUse items number h m ↔ Below (λ n. UsedAt C H events n h m) i number

  abbrev pub ToldOrders : ℕ → List StaleAt → Type 0
  ToldOrders i items = (home ticket number : ℕ) → IsToldOrder items number home ticket → Below (λ n. OpensAt C H events n home ticket) i number

  module _ (i : ℕ) (event : Event) (at : slice_get events i ≡ Some event) where
    becomes_here : (h : ℕ) (m : Mapping) → BecomesStale C (due_turn C (history_at C H events i) event) (history_at C H events i) h m ↔ BecomesAt C H events i h m
    becomes_here h m = (
      λ b. record { event = event; is = at; becomes = b },
      λ b. let both : Some b.event ≡ Some event = sym b.is ∙ at in
          let same : b.event ≡ event = cc in
          subst (λ (e : Event). BecomesStale C (due_turn C (history_at C H events i) e) (history_at C H events i) h m) same b.becomes,
    )

    entry_here : (h : ℕ) (e : Entry) → EntryBecomesStale C (due_turn C (history_at C H events i) event) (history_at C H events i) h e ↔ EntryBecomesAt C H events i h e
    entry_here h e = (
      λ b. record { event = event; is = at; becomes = b },
      λ b. let both : Some b.event ≡ Some event = sym b.is ∙ at in
          let same : b.event ≡ event = cc in
          subst (λ (x : Event). EntryBecomesStale C (due_turn C (history_at C H events i) x) (history_at C H events i) h e) same b.becomes,
    )

    used_here : (h : ℕ) (m : Mapping) → UsesStale C (due_turn C (history_at C H events i) event) (history_at C H events i) h m ↔ UsedAt C H events i h m
    used_here h m = (
      λ b. record { event = event; is = at; uses = b },
      λ b. let both : Some b.event ≡ Some event = sym b.is ∙ at in
          let same : b.event ≡ event = cc in
          subst (λ (e : Event). UsesStale C (due_turn C (history_at C H events i) e) (history_at C H events i) h m) same b.uses,
    )

    pub next_becoming : (old new : List StaleAt) → ToldBecoming i old
        → ((n h : ℕ) (m : Mapping) → IsToldBecoming new n h m ↔ (IsToldBecoming old n h m ⊎ ((n ≡ i + 1) × BecomesStale C (due_turn C (history_at C H events i) event) (history_at C H events i) h m)))
        → ToldBecoming (i + 1) new
    next_becoming old new told step h m number =
        next_both (λ n. BecomesAt C H events n h m) i (λ k. IsToldBecoming old k h m) (λ k. IsToldBecoming new k h m) (BecomesStale C (due_turn C (history_at C H events i) event) (history_at C H events i) h m)
        (told h m) (λ k. step k h m) (becomes_here h m) number

    pub next_entries : (old new : List StaleAt) → ToldEntry i old
        → ((n h : ℕ) (e : Entry) → IsToldEntry new n h e
        ↔ (IsToldEntry old n h e ⊎ ((n ≡ i + 1) × EntryBecomesStale C (due_turn C (history_at C H events i) event) (history_at C H events i) h e)))
        → ToldEntry (i + 1) new
    next_entries old new told step h e number =
        next_both (λ n. EntryBecomesAt C H events n h e) i (λ k. IsToldEntry old k h e) (λ k. IsToldEntry new k h e)
        (EntryBecomesStale C (due_turn C (history_at C H events i) event) (history_at C H events i) h e)
        (told h e) (λ k. step k h e) (entry_here h e) number

    pub next_uses : (old new : List StaleAt) → ToldUses i old
        → ((n h : ℕ) (m : Mapping) → IsToldUse new n h m ↔ (IsToldUse old n h m ⊎ ((n ≡ i + 1) × UsesStale C (due_turn C (history_at C H events i) event) (history_at C H events i) h m)))
        → ToldUses (i + 1) new
    next_uses old new told step h m number =
        next_both (λ n. UsedAt C H events n h m) i (λ k. IsToldUse old k h m) (λ k. IsToldUse new k h m) (UsesStale C (due_turn C (history_at C H events i) event) (history_at C H events i) h m)
        (told h m) (λ k. step k h m) (used_here h m) number

    pub next_orders : (old new : List StaleAt) → ToldOrders i old
        → ((n home ticket : ℕ) → IsToldOrder new n home ticket → IsToldOrder old n home ticket ⊎ ((n ≡ i + 1) × IsEditOf home event × (opened_ticket (due C (history_at C H events i) event) ≡ Some ticket)))
        → ToldOrders (i + 1) new
    next_orders old new told step home ticket number =
        next_one (λ n. OpensAt C H events n home ticket) i (λ k. IsToldOrder old k home ticket) (λ k. IsToldOrder new k home ticket)
        (IsEditOf home event × (opened_ticket (due C (history_at C H events i) event) ≡ Some ticket))
        (told home ticket) (λ k t. elim (step k home ticket t) [ inl before ↦ inl before | inr now ↦ inr (now.0, (now.1, now.2)) ]) (λ o. record { event = event; is = at; edit = o.0; opened = o.1 }) number

  -- at the end
  pub all_becoming : (items : List StaleAt) (i : ℕ) → length events ≤ i → ToldBecoming i items → (number h : ℕ) (m : Mapping)
      → ((n : ℕ) × (number ≡ n + 1) × BecomesAt C H events n h m) ↔ IsToldBecoming items number h m
  all_becoming items i all told number h m = (
    λ b. (told h m number).1 (b.0, b.1, (let within = slice_get_within events b.0 b.2.event b.2.is in omega (arith, within, all)), b.2),
    λ t. let b = (told h m number).0 t in (b.0, b.1, b.3),
  )

  pub all_entries : (items : List StaleAt) (i : ℕ) → length events ≤ i → ToldEntry i items → (number h : ℕ) (e : Entry)
      → ((n : ℕ) × (number ≡ n + 1) × EntryBecomesAt C H events n h e) ↔ IsToldEntry items number h e
  all_entries items i all told number h e = (
    λ b. (told h e number).1 (b.0, b.1, (let within = slice_get_within events b.0 b.2.event b.2.is in omega (arith, within, all)), b.2),
    λ t. let b = (told h e number).0 t in (b.0, b.1, b.3),
  )

  pub all_uses : (items : List StaleAt) (i : ℕ) → length events ≤ i → ToldUses i items → (number h : ℕ) (m : Mapping)
      → ((n : ℕ) × (number ≡ n + 1) × UsedAt C H events n h m) ↔ IsToldUse items number h m
  all_uses items i all told number h m = (
    λ b. (told h m number).1 (b.0, b.1, (let within = slice_get_within events b.0 b.2.event b.2.is in omega (arith, within, all)), b.2),
    λ t. let b = (told h m number).0 t in (b.0, b.1, b.3),
  )
