-- The reach of findings, of which as many are known as there are of both lists.
use Rattle.std.proofs.Common.{◌≡◌, ◌∙◌, ◌≤◌, ℕ, true, false, List, [], ◌∷◌, None, length, drop, ap, sym, subst, inl, inr, refl, arith}
use Rattle.std.specs.Prelude.{min, nat_le}
use Rattle.std.proofs.Math.Nat.{le-min, le_refl}
use Rattle.std.proofs.lemmas.Bool.{cases_Bool}
use Rattle.std.proofs.lemmas.Bool.Decides.{nat_tests}
use Rattle.std.proofs.lemmas.List.{drop_all}
use Rattle.watch_causes.specs.declared.begun.Begun.{Begun}
use Rattle.watch_causes.specs.declared.finding.Finding.{Finding}
use Rattle.watch_causes.specs.declared.reach.Reach.{Reach}
use Rattle.watch_causes.specs.KnownReaches.{reach_listed}

no-reach : (begun : List Begun) (f : Finding) → reach_listed begun [] f ≡ None
no-reach [] f = refl
no-reach (b ∷ begun) f = refl

shorter : (a b : ℕ) → nat_le a b ≡ true → a ≤ b
shorter a b is = grind (arith, nat_tests)

longer : (a b : ℕ) → nat_le a b ≡ false → b ≤ a
longer a b is = grind (arith, nat_tests)

pub none-behind : (begun : List Begun) (reaches : List Reach) (n : ℕ) (f : Finding) → n ≡ min (length begun) (length reaches) → reach_listed (drop n begun) (drop n reaches) f ≡ None
none-behind begun reaches n f is =
    elim (cases_Bool (nat_le (length begun) (length reaches))) [
      | inl first ↦
          let within : length begun ≤ n = subst (λ (m : ℕ). length begun ≤ m) (sym is) (le-min (le_refl (length begun)) (shorter (length begun) (length reaches) first)) in
          ap (λ (bs : List Begun). reach_listed bs (drop n reaches) f) (drop_all n begun within)
      | inr second ↦
          let within : length reaches ≤ n = subst (λ (m : ℕ). length reaches ≤ m) (sym is) (le-min (longer (length begun) (length reaches) second) (le_refl (length reaches))) in
          ap (λ (rs : List Reach). reach_listed (drop n begun) rs f) (drop_all n reaches within) ∙ no-reach (drop n begun) f
    ]
