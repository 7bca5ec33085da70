-- The byte of all harts names each hart that exists, and no other.
use Rattle.std.proofs.Common.{◌≡◌, ℕ, zero, suc, ◌-◌, ◌^◌, ◌<◌, ◌≤◌, true, refl, ap, ◌∙◌, arith}
use Rattle.std.specs.Prelude.{nat_lt}
use Rattle.std.proofs.lemmas.Bool.{lt-ltb}
use Rattle.shoot.specs.HartSet.{contains, harts_in, harts_where}
use Rattle.pte.specs.declared.TheConstants.{MAX_HARTS}
use Rattle.shoot.proofs.HartSets.{contains_where}
use Rattle.history.specs.Setup.{Setup, is_hart}
use Rattle.history.specs.Turns.{History}
use Rattle.stepcore.specs.State.{State}
use Rattle.stepcore.specs.Answers.{every_hart}
use Rattle.stepcore.specs.Stands.{Stands}

pub byte_names : (n : ℕ) → n ≤ MAX_HARTS → harts_in (2 ^ n - 1) ≡ harts_where (λ h. nat_lt h n)
byte_names zero few = refl
byte_names (suc zero) few = refl
byte_names (suc (suc zero)) few = refl
byte_names (suc (suc (suc zero))) few = refl
byte_names (suc (suc (suc (suc zero)))) few = refl
byte_names (suc (suc (suc (suc (suc zero))))) few = refl
byte_names (suc (suc (suc (suc (suc (suc zero)))))) few = refl
byte_names (suc (suc (suc (suc (suc (suc (suc zero))))))) few = refl
byte_names (suc (suc (suc (suc (suc (suc (suc (suc zero)))))))) few = refl
byte_names (suc (suc (suc (suc (suc (suc (suc (suc (suc n))))))))) few = absurd (omega arith)

module _ (C : Setup) (m : State) (H : History) (st : Stands C m H) where
  pub every_named : harts_in (every_hart m) ≡ harts_where (is_hart C)
  every_named = ap (λ (D : Setup). harts_in (2 ^ D.harts - 1)) st.setup ∙ byte_names C.harts st.within.harts

  pub own_named : (hart : ℕ) → hart < C.harts → contains (harts_in (every_hart m)) hart ≡ true
  own_named hart below =
      ap (λ named. contains named hart) every_named ∙ contains_where (is_hart C) hart (omega (arith, below, st.within.harts)) ∙ lt-ltb hart C.harts below
