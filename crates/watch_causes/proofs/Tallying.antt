-- The list of tallies, with one more verdict.
use Rattle.std.proofs.Common.{◌≡◌, ◌∙◌, ℕ, Bool, true, false, ◌<◌, ◌≤◌, List, [], ◌∷◌, ◌++◌, Some, None, ap, sym, inl, inr, refl, arith, length, get_or, zero, suc, set}
use Rattle.std.specs.Prelude.{cond, nat_lt, position}
use Rattle.std.specs.List.{position_or_len}
use Rattle.std.proofs.lemmas.Bool.{cases_Bool, ltb-false}
use Rattle.std.proofs.lemmas.List.Quantifiers.{position-Some}
use Rattle.std.proofs.lemmas.List.Sums.{fails_before_first}
use Rattle.watch_causes.specs.declared.finding.Cause.{Cause}
use Rattle.watch_causes.specs.declared.tally.Tally.{Tally}
use Rattle.watch_causes.specs.Findings.{Judged}
use Rattle.watch_causes.specs.Tallies.{first_tally, is_of, tallied, with_verdict}

never-some : {A : Type 0} (x : A) → None ≡ Some x → ⊥
never-some x is = cc

none-passes : {A : Type 0} (test : A → Bool) (xs : List A) (d : A) → position test xs ≡ None → (k : ℕ) → k < length xs → test (get_or xs k d) ≡ false
none-passes test xs d none k low =
    let within : length xs ≤ position_or_len test xs =
    elim (cases_Bool (nat_lt (position_or_len test xs) (length xs))) [
      | inl is ↦ absurd (never-some (position_or_len test xs) (sym none ∙ ap (λ b. cond b (Some (position_or_len test xs)) None) is))
      | inr is ↦ ltb-false (position_or_len test xs) (length xs) is
    ] in
    fails_before_first test xs k d (omega arith)

module _ (cause : Cause) (begins : Bool) (v : Judged) where
  abbrev more : Tally → Tally
  more = tallied begins v.warning.verdict

  at-place : (ts : List Tally) (place : ℕ) (d : Tally) → place < length ts → is_of cause (get_or ts place d) ≡ true
      → ((k : ℕ) → k < place → is_of cause (get_or ts k d) ≡ false)
      → set ts place (more (get_or ts place d)) ≡ with_verdict cause begins v ts
  at-place [] place d low this before = absurd (omega arith)
  at-place (t ∷ ts) zero d low this before = sym (ap (λ b. cond b (more t ∷ ts) (t ∷ with_verdict cause begins v ts)) this)
  at-place (t ∷ ts) (suc place) d low this before =
      ap (λ rest. t ∷ rest) (at-place ts place d (omega arith) this (λ k early. before (suc k) (omega arith)))
      ∙ sym (ap (λ b. cond b (more t ∷ ts) (t ∷ with_verdict cause begins v ts)) (before 0 (omega arith)))

  pub with-some : (ts : List Tally) (place : ℕ) (d : Tally) → position (is_of cause) ts ≡ Some place
      → set ts place (more (get_or ts place d)) ≡ with_verdict cause begins v ts
  with-some ts place d is =
      let found = position-Some (is_of cause) ts place d is in
      at-place ts place d found.0 found.1 found.2

  at-end : (ts : List Tally) (d : Tally) → ((k : ℕ) → k < length ts → is_of cause (get_or ts k d) ≡ false)
      → ts ++ first_tally cause begins v ∷ [] ≡ with_verdict cause begins v ts
  at-end [] d other = refl
  at-end (t ∷ ts) d other =
      ap (λ rest. t ∷ rest) (at-end ts d (λ k low. other (suc k) (omega arith)))
      ∙ sym (ap (λ b. cond b (more t ∷ ts) (t ∷ with_verdict cause begins v ts)) (other 0 (omega arith)))

  pub with-none : (ts : List Tally) → position (is_of cause) ts ≡ None → ts ++ first_tally cause begins v ∷ [] ≡ with_verdict cause begins v ts
  with-none ts none = at-end ts (first_tally cause begins v) (none-passes (is_of cause) ts (first_tally cause begins v) none)
