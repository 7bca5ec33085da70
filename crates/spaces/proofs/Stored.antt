-- One word stored, and the homes that it is not at.
use Rattle.std.proofs.Common.{◌≡◌, ℕ, ◌⊎◌, ◌==◌, ◌&&◌, Bool, true, false, cond, Some, ap, sym, ◌∙◌, refl, inl, inr, arith}
use Rattle.std.proofs.lemmas.Bool.{and_parts, eqb-true}
use Rattle.walk.specs.Leads.{Tables}
use Rattle.walk.specs.Pointers.{pointed}
use Rattle.walk.specs.Stores.{stored}
use Rattle.spaces.proofs.Homes.{}

-- whether a word is the one that is stored
pub is-word : (f i g j : ℕ) → ((f ≡ g) × (i ≡ j)) ⊎ ((f ≡ g → i ≡ j → ⊥))
is-word f i g j = by_test ((f == g) && (i == j)) refl
  where
    by_test : (b : Bool) → ((f == g) && (i == j)) ≡ b → ((f ≡ g) × (i ≡ j)) ⊎ ((f ≡ g → i ≡ j → ⊥))
    by_test true e = let y = and_parts (f == g) (i == j) e in inl (eqb-true f g y.0, eqb-true i j y.1)
    by_test false e = inr (λ p q. grind (arith, e, p, q))

module _ (words : Tables) (f i x : ℕ) where
  pub stored-here : (g j : ℕ) → f ≡ g → i ≡ j → stored words f i x g j ≡ Some x
  stored-here g j p q = by_test ((g == f) && (j == i)) refl
    where
      by_test : (b : Bool) → ((g == f) && (j == i)) ≡ b → cond b (Some x) (words g j) ≡ Some x
      by_test true e = refl
      by_test false e = absurd (let x : true ≡ false = sym (grind (arith, p, q)) ∙ e in cc)

  pub stored-there : (g j : ℕ) → (f ≡ g → i ≡ j → ⊥) → stored words f i x g j ≡ words g j
  stored-there g j apart = by_test ((g == f) && (j == i)) refl
    where
      by_test : (b : Bool) → ((g == f) && (j == i)) ≡ b → cond b (Some x) (words g j) ≡ words g j
      by_test true e = let y = and_parts (g == f) (j == i) e in absurd (apart (sym (eqb-true g f y.0)) (sym (eqb-true j i y.1)))
      by_test false e = refl

  -- where it points as the old word does, all words point as before
  pub pointed-stored : pointed (Some x) ≡ pointed (words f i) → (g j : ℕ) → pointed (stored words f i x g j) ≡ pointed (words g j)
  pointed-stored e g j = elim (is-word f i g j) [
    | inl same ↦ ap pointed (stored-here g j same.0 same.1) ∙ e ∙ ap (λ n. pointed (words n i)) same.0 ∙ ap (λ n. pointed (words g n)) same.1
    | inr apart ↦ ap pointed (stored-there g j apart)
  ]
