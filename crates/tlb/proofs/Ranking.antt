-- The ages of the slots: what a drop makes of them.
use Rattle.std.proofs.Common.{◌≡◌, ◌≢◌, sym, ◌∙◌, ap, subst, refl, ℕ, ◌+◌, ◌<◌, ◌≤◌, false, not, List, map, length, inl, inr, arith}
use Rattle.std.specs.Prelude.{◌==◌, slice_index}
use Rattle.std.proofs.lemmas.Bool.{cases_eq, cases_lt, eqb-true, eq-eqb, ne_eqb, not-false}
use Rattle.std.proofs.lemmas.List.{length-map, get_or-map}
use Rattle.std.proofs.lemmas.List.Sums.{prefix_len_is, prefix_len_stops}
use Rattle.tlb.specs.Slots.{IsRanking, closed_up, slot_of}

-- the slot of an age has that age
pub age_at : (ages : List ℕ) (age : ℕ) → IsRanking ages → age < 16 → slice_index ages (slot_of ages age) ≡ age
age_at ages age ranks within =
    let there : slot_of ages age < length ages = omega (arith, ranks.each age within, ranks.length) in
    let stops : not (slice_index ages (slot_of ages age) == age) ≡ false = prefix_len_stops (λ a. not (a == age)) ages 0 there in
    eqb-true _ age (not-false _ stops)

-- two slots of one age are one slot
pub same_slot : (ages : List ℕ) (j k : ℕ) → IsRanking ages → j < 16 → k < 16 → slice_index ages j ≡ slice_index ages k → j ≡ k
same_slot ages j k ranks j_within k_within same = sym (ranks.once j j_within) ∙ ap (slot_of ages) same ∙ ranks.once k k_within

-- the slot of an age, where no slot before it has the age
slot_is : (ages : List ℕ) (age slot : ℕ) → length ages ≡ 16 → slot < 16 → slice_index ages slot ≡ age → ((k : ℕ) → k < slot → slice_index ages k ≢ age) → slot_of ages age ≡ slot
slot_is ages age slot long within here before =
    prefix_len_is (λ a. not (a == age)) ages slot 0 (omega arith) (λ k less. ap not (ne_eqb _ age (before k less))) (λ _. ap not (eq-eqb _ age here))

-- ---- where an age is dropped
pub closed_at : (dropped : ℕ) → closed_up dropped dropped ≡ 15
closed_at dropped = rw (eq-eqb dropped dropped refl) refl

pub closed_below : (dropped age : ℕ) → age < dropped → closed_up dropped age ≡ age
closed_below dropped age less = grind arith

pub closed_above : (dropped age : ℕ) → dropped ≤ age → closed_up dropped (age + 1) ≡ age
closed_above dropped age more = grind arith

closed_within : (dropped age : ℕ) → age < 16 → closed_up dropped age < 16
closed_within dropped age within = grind arith

closed_apart : (dropped a b : ℕ) → dropped < 16 → a < 16 → b < 16 → closed_up dropped a ≡ closed_up dropped b → a ≡ b
closed_apart dropped a b within a_within b_within same = grind arith

-- the age that becomes an age
opened : (dropped age : ℕ) → dropped < 16 → age < 16 → (old : ℕ) × (old < 16) × (closed_up dropped old ≡ age)
opened dropped age within age_within =
    elim (cases_eq age 15) [
      | inl last ↦ (dropped, within, closed_at dropped ∙ sym last)
      | inr other ↦ elim (cases_lt age dropped) [
        | inl less ↦ (age, age_within, closed_below dropped age less)
        | inr more ↦ (age + 1, omega arith, closed_above dropped age more)
      ]
    ]

module _ (ages : List ℕ) (dropped : ℕ) (ranks : IsRanking ages) (within : dropped < 16) where
  pub now_at : (slot : ℕ) → slot < 16 → slice_index (map (closed_up dropped) ages) slot ≡ closed_up dropped (slice_index ages slot)
  now_at slot there = get_or-map (closed_up dropped) ages slot 0 0 (omega (arith, ranks.length))

  long : length (map (closed_up dropped) ages) ≡ 16
  long = length-map ages (closed_up dropped) ∙ ranks.length

  stays_at : (slot : ℕ) → slot < 16 → slot_of (map (closed_up dropped) ages) (slice_index (map (closed_up dropped) ages) slot) ≡ slot
  stays_at slot there =
      slot_is _ _ slot long there refl
      (λ k less same.
      let other : k < 16 = omega arith in
      let one : k ≡ slot = same_slot ages k slot ranks other there (closed_apart dropped _ _ within (ranks.below k other) (ranks.below slot there) (sym (now_at k other) ∙ same ∙ now_at slot there)) in
      omega arith)

  -- each slot has the age that became of its age
  pub moved_slot : (age : ℕ) → age < 16 → slot_of (map (closed_up dropped) ages) (closed_up dropped age) ≡ slot_of ages age
  moved_slot age there =
      let slot = slot_of ages age in
      let is : slice_index (map (closed_up dropped) ages) slot ≡ closed_up dropped age = now_at slot (ranks.each age there) ∙ ap (closed_up dropped) (age_at ages age ranks there) in
      ap (slot_of (map (closed_up dropped) ages)) (sym is) ∙ stays_at slot (ranks.each age there)

  pub closed_ranking : IsRanking (map (closed_up dropped) ages)
  closed_ranking = record {
    length = long;
    each = λ age there.
        let old = opened dropped age within there in
        let P : ℕ → Type 0 = λ a. slot_of (map (closed_up dropped) ages) a < 16 in
        subst P old.2 (omega (arith, moved_slot old.0 old.1, ranks.each old.0 old.1));
    below = λ slot there. omega (arith, now_at slot there, closed_within dropped (slice_index ages slot) (ranks.below slot there));
    once = stays_at;
  }
