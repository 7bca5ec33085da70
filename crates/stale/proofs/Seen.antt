-- What is known of a mapping once some of the spaces were looked at.
use Rattle.std.proofs.Common.{◌≡◌, ℕ, ◌+◌, ◌<◌, Bool, true, false, ap, sym, ◌∙◌, subst, ◌⊎◌, inl, inr, arith}
use Rattle.std.specs.Prelude.{IsTrue, ◌↔◌}
use Rattle.std.proofs.lemmas.Bool.{false≢true, true_from_ne_false, cases_lt}
use Rattle.tlb.specs.Mappings.{Mapping}
use Rattle.stepcore.specs.State.{State}
use Rattle.stale.specs.Mapped.{is_reached, IsMappedFrom, IsMappedIn}

less_or_same : (s n : ℕ) → s < n + 1 → (s < n) ⊎ (s ≡ n)
less_or_same s n below = elim (cases_lt s n) [ inl less ↦ inl less | inr from ↦ inr (omega (arith, below, from)) ]

-- of the spaces below this number: whether it is reached through one, and each through which it is
-- maps it so
pub record Seen (m : State) (p : Mapping) (number : ℕ) (is_some : Bool) : Type 0 where
  pub some : is_some ≡ true → (s : ℕ) × (is_reached m p.asid s ≡ true)
  pub none : is_some ≡ false → (s : ℕ) → s < number → is_reached m p.asid s ≡ false
  pub each : (s : ℕ) → s < number → is_reached m p.asid s ≡ true → IsMappedFrom m.memory s p

module _ (m : State) (p : Mapping) where
  pub seen_mapped : (n : ℕ) (b : Bool) → Seen m p n b → is_reached m p.asid n ≡ true → IsMappedFrom m.memory n p → Seen m p (n + 1) true
  seen_mapped n b seen reached maps = record {
    some = λ _. (n, reached);
    none = λ e. absurd (false≢true (sym e));
    each = λ s below r. elim (less_or_same s n below) [
      | inl less ↦ seen.each s less r
      | inr same ↦ subst (λ (x : ℕ). IsMappedFrom m.memory x p) (sym same) maps
    ];
  }

  pub seen_past : (n : ℕ) (b : Bool) → Seen m p n b → is_reached m p.asid n ≡ false → Seen m p (n + 1) b
  seen_past n b seen past = record {
    some = seen.some;
    none = λ e s below. elim (less_or_same s n below) [
      | inl less ↦ seen.none e s less
      | inr same ↦ ap (is_reached m p.asid) same ∙ past
    ];
    each = λ s below r. elim (less_or_same s n below) [
      | inl less ↦ seen.each s less r
      | inr same ↦ absurd (false≢true (sym past ∙ ap (is_reached m p.asid) (sym same) ∙ r))
    ];
  }

  -- the spaces are no more than were looked at
  module _ (n : ℕ) (b : Bool) (seen : Seen m p n b) (all : (s : ℕ) → is_reached m p.asid s ≡ true → s < n) where
    pub seen_all : IsTrue b ↔ IsMappedIn m p
    seen_all = (
      λ t. record { some = seen.some t; each = λ s r. seen.each s (all s r) r },
      λ mapped. true_from_ne_false b (λ e. false≢true (sym (seen.none e mapped.some.0 (all mapped.some.0 mapped.some.1)) ∙ mapped.some.1)),
    )

  pub unseen : (s : ℕ) → is_reached m p.asid s ≡ true → (IsMappedFrom m.memory s p → ⊥) → IsTrue false ↔ IsMappedIn m p
  unseen s reached not_so = (λ t. absurd (false≢true t), λ mapped. absurd (not_so (mapped.each s reached)))
