-- The ticket that an opening takes is the least that is not open.
use Rattle.std.proofs.Common.{◌≡◌, ℕ, zero, suc, ◌+◌, ◌<◌, ◌≤◌, ◌⊎◌, ◌==◌, true, false, cond, Some, None, refl, sym, ap, subst, ◌∙◌, arith, inl, inr}
use Rattle.std.specs.Prelude.{◌↔◌, is_none}
use Rattle.std.proofs.lemmas.Bool.{true≢false, eqb-true, eqb-false}
use Rattle.shoot.specs.declared.TheConstants.{MAX_TICKETS}
use Rattle.history.specs.Turns.{History}
use Rattle.history.specs.Orders.{open_order}
use Rattle.history.specs.Due.{least_free}
use Rattle.history.specs.Occurrences.{IsLeastFree}
use Rattle.shoot.proofs.HartSets.{by_test}
use Rattle.history.proofs.Occurred.{none_by}

above : (from m : ℕ) → from ≤ m → (from == m) ≡ false → from + 1 ≤ m
above from m up other = omega (arith, up, eqb-false from m other)

module _ (H : History) (hart : ℕ) where
  -- of n numbers from `from` on, this is the least that is not open
  record LeastFrom (n from ticket : ℕ) : Type 0 where
    pub first : from ≤ ticket
    pub below : ticket < from + n
    pub free : open_order H hart ticket ≡ None
    pub least : (m : ℕ) → from ≤ m → m < ticket → ¬ (open_order H hart m ≡ None)

  not_free : (ticket : ℕ) → is_none (open_order H hart ticket) ≡ false → ¬ (open_order H hart ticket ≡ None)
  not_free ticket busy none = true≢false (sym (ap is_none none) ∙ busy)

  at_first : (n from ticket : ℕ) → is_none (open_order H hart from) ≡ true → from ≡ ticket → LeastFrom (suc n) from ticket
  at_first n from ticket free same = record {
    first = omega (arith, same);
    below = omega (arith, same);
    free = subst (λ t. open_order H hart t ≡ None) same (none_by (open_order H hart from) free);
    least = λ m up down. absurd (omega (arith, same, up, down));
  }

  some_open : (ticket : ℕ) → ¬ (open_order H hart ticket ≡ None) → is_none (open_order H hart ticket) ≡ false
  some_open ticket busy =
      by_test (λ v. is_none (open_order H hart ticket) ≡ v → v ≡ false) (is_none (open_order H hart ticket))
      (λ _ free. absurd (busy (none_by (open_order H hart ticket) free))) (λ _ _. refl) refl

  first_or_later : (from m : ℕ) → from ≤ m → (from ≡ m) ⊎ (from + 1 ≤ m)
  first_or_later from m up =
      by_test (λ v. (from == m) ≡ v → (from ≡ m) ⊎ (from + 1 ≤ m)) (from == m) (λ _ same. inl (eqb-true from m same))
      (λ _ other. inr (above from m up other)) refl

  found : (n from ticket : ℕ) → least_free H hart n from ≡ Some ticket → LeastFrom n from ticket
  found zero from ticket e = absurd cc
  found (suc n) from ticket e =
      by_test (λ v. is_none (open_order H hart from) ≡ v → cond v (Some from) (least_free H hart n (from + 1)) ≡ Some ticket → LeastFrom (suc n) from ticket)
      (is_none (open_order H hart from)) (λ _ free e. at_first n from ticket free cc)
      (λ _ busy e.
      let rest = found n (from + 1) ticket e in
      record {
        first = omega (arith, rest.first);
        below = omega (arith, rest.below);
        free = rest.free;
        least = λ m up down. elim (first_or_later from m up) [
          | inl same ↦ subst (λ t. ¬ (open_order H hart t ≡ None)) same (not_free from busy)
          | inr later ↦ rest.least m later down
        ];
      })
      refl e

  taken : (n from ticket : ℕ) → LeastFrom n from ticket → least_free H hart n from ≡ Some ticket
  taken zero from ticket is = absurd (omega (arith, is.first, is.below))
  taken (suc n) from ticket is =
      elim (first_or_later from ticket is.first) [
        | inl same ↦ rw (ap is_none (ap (open_order H hart) same ∙ is.free)) (ap Some same)
        | inr later ↦ let busy = some_open from (is.least from (omega arith) (omega (arith, later))) in
            rw busy (taken n (from + 1) ticket (record { first = later; below = omega (arith, is.below); free = is.free; least = λ m up down. is.least m (omega (arith, up)) down }))
      ]

  none_found : (n from : ℕ) → least_free H hart n from ≡ None → (m : ℕ) → from ≤ m → m < from + n → ¬ (open_order H hart m ≡ None)
  none_found zero from e m up down = absurd (omega (arith, up, down))
  none_found (suc n) from e m up down =
      by_test (λ v. is_none (open_order H hart from) ≡ v → cond v (Some from) (least_free H hart n (from + 1)) ≡ None → ¬ (open_order H hart m ≡ None))
      (is_none (open_order H hart from)) (λ _ free e. absurd cc)
      (λ _ busy e. elim (first_or_later from m up) [
        | inl same ↦ subst (λ t. ¬ (open_order H hart t ≡ None)) same (not_free from busy)
        | inr later ↦ none_found n (from + 1) e m later (omega (arith, down))
      ]) refl e

  none_left : (n from : ℕ) → ((m : ℕ) → from ≤ m → m < from + n → ¬ (open_order H hart m ≡ None)) → least_free H hart n from ≡ None
  none_left zero from all = refl
  none_left (suc n) from all =
      rw (some_open from (all from (omega arith) (omega arith))) (none_left n (from + 1) (λ m up down. all m (omega (arith, up)) (omega (arith, down))))

  pub none_is : (least_free H hart MAX_TICKETS 0 ≡ None) ↔ ((n : ℕ) → n < MAX_TICKETS → ¬ (open_order H hart n ≡ None))
  none_is = (λ e n down. none_found MAX_TICKETS 0 e n (omega arith) down, λ all. none_left MAX_TICKETS 0 (λ m up down. all m down))

  pub least_is : (ticket : ℕ) → (least_free H hart MAX_TICKETS 0 ≡ Some ticket) ↔ IsLeastFree H hart ticket
  least_is ticket = (
    λ e. let f = found MAX_TICKETS 0 ticket e in record { below = f.below; free = f.free; least = λ n down. f.least n (omega arith) down },
    λ is. taken MAX_TICKETS 0 ticket (record { first = omega arith; below = is.below; free = is.free; least = λ m up down. is.least m down }),
  )
