-- Whether some hart is in a space, and whether some space has an ASID, for a machine that stands at
-- a history and for the history alike.
use Rattle.std.proofs.Common.{◌≡◌, ℕ, zero, suc, ◌<◌, Bool, true, false, ◌&&◌, not, List, [], ◌∷◌, length, slice_get, unwrap_or, ap, sym, ◌∙◌, subst, inl, inr, eqb, arith}
use Rattle.std.specs.List.{list_any}
use Rattle.std.proofs.lemmas.Bool.{and_parts, and_from, or_cases, or_left, or_right, false≢true, true≢false, cases_Bool, cases_lt, lt-ltb, ltb-true, false_from_ne_true}
use Rattle.std.proofs.lemmas.List.Folds.{list_any_at}
use Rattle.std.proofs.lemmas.Option.{unwrap_or-slice_get}
use Rattle.shoot.specs.HartSet.{harts_where, is_empty}
use Rattle.shoot.proofs.HartSets.{where_agree}
use Rattle.history.specs.Setup.{Setup, is_hart}
use Rattle.history.specs.Turns.{History}
use Rattle.history.specs.Spaces.{status_of, asid_of}
use Rattle.history.specs.Spaces as spaces
use Rattle.history.specs.Harts.{space_of}
use Rattle.history.specs.Due as due_tests
use Rattle.laws.proofs.Tools.{none_where}
use Rattle.stepcore.specs.declared.space_state.SpaceState.{SpaceState}
use Rattle.stepcore.specs.State.{State, HartState, idle_hart, no_space, space_at}
use Rattle.stepcore.specs.Answers.{has_asid, is_asid_used, is_in_use}
use Rattle.stepcore.specs.Stands.{Stands}
use Rattle.stepcore.proofs.SpaceReplies.{free_same}
use Rattle.stepcore.proofs.Tools.{both_ways}

-- an element that passes the test, by its number
any_found : {A : Type 0} (f : A → Bool) (d : A) (xs : List A) → list_any f xs ≡ true → (s : ℕ) × (s < length xs) × (f (unwrap_or (slice_get xs s) d) ≡ true)
any_found f d [] e = absurd (false≢true e)
any_found f d (x ∷ xs) e = elim (or_cases (f x) (list_any f xs) e) [
  | inl here ↦ (0, omega arith, here)
  | inr rest ↦ let r = any_found f d xs rest in (suc r.0, omega (arith, r.1), r.2)
]

any_there : {A : Type 0} (f : A → Bool) (d : A) (xs : List A) (s : ℕ) → s < length xs → f (unwrap_or (slice_get xs s) d) ≡ true → list_any f xs ≡ true
any_there f d xs s less e = list_any_at f xs s d less (ap f (sym (unwrap_or-slice_get xs s d)) ∙ e)

module _ (C : Setup) (m : State) (H : History) (st : Stands C m H) where
  abbrev has : ℕ → ℕ → Bool
  has asid s = not (spaces.is_free (status_of H s)) && eqb (asid_of C H s) asid

  asid_found : (asid n : ℕ) → due_tests.is_asid_of C H asid n ≡ true → (s : ℕ) × (s < n) × (has asid s ≡ true)
  asid_found asid zero e = absurd (false≢true e)
  asid_found asid (suc n) e = elim (or_cases (has asid n) (due_tests.is_asid_of C H asid n) e) [
    | inl here ↦ (n, omega arith, here)
    | inr rest ↦ let r = asid_found asid n rest in (r.0, omega (arith, r.1), r.2)
  ]

  asid_there : (asid n s : ℕ) → s < n → has asid s ≡ true → due_tests.is_asid_of C H asid n ≡ true
  asid_there asid zero s less e = absurd (omega arith)
  asid_there asid (suc n) s less e = elim (cases_lt s n) [
    | inl below ↦ or_right (has asid n) (due_tests.is_asid_of C H asid n) (asid_there asid n s below e)
    | inr last ↦ let same : s ≡ n = omega arith in or_left (has asid n) (due_tests.is_asid_of C H asid n) (subst (λ k. has asid k ≡ true) same e)
  ]

  has_same : (asid s : ℕ) → s < length C.asids → has_asid (space_at m s) asid ≡ has asid s
  has_same asid s below =
      ap (λ b. not b && eqb (space_at m s).asid asid) (free_same C m H st s below)
      ∙ ap (λ a. not (spaces.is_free (status_of H s)) && eqb a asid) (st.spaces s below).asid

  pub asid_used_same : (asid : ℕ) → is_asid_used m asid ≡ due_tests.is_asid_of C H asid (length C.asids)
  asid_used_same asid =
      both_ways (is_asid_used m asid) (due_tests.is_asid_of C H asid (length C.asids))
      (λ e. let f = any_found (λ (x : SpaceState). has_asid x asid) no_space m.spaces e in
      let below : f.0 < length C.asids = subst (λ n. f.0 < n) st.count f.1 in
      asid_there asid (length C.asids) f.0 below (sym (has_same asid f.0 below) ∙ f.2))
      (λ e. let f = asid_found asid (length C.asids) e in
      any_there (λ (x : SpaceState). has_asid x asid) no_space m.spaces f.0 (subst (λ n. f.0 < n) (sym st.count) f.1) (has_same asid f.0 f.1 ∙ f.2))

  abbrev within : ℕ → ℕ → Bool
  within space h = is_hart C h && eqb (space_of H h) space

  harts_count : length m.harts ≡ C.harts
  harts_count = ap (λ (D : Setup). D.harts) st.setup

  pub in_use_same : (space : ℕ) → is_in_use m space ≡ due_tests.is_in_use C H space
  in_use_same space =
      both_ways (is_in_use m space) (not (is_empty (harts_where (within space))))
      (λ e. let f = any_found (λ (x : HartState). eqb x.space space) idle_hart m.harts e in
      let below : f.0 < C.harts = subst (λ n. f.0 < n) harts_count f.1 in
      let here : within space f.0 ≡ true = and_from (is_hart C f.0) (eqb (space_of H f.0) space) (lt-ltb f.0 C.harts below) (ap (λ s. eqb s space) (sym (st.harts f.0 below).space) ∙ f.2) in
      elim (cases_Bool (is_empty (harts_where (within space)))) [
        | inl empty ↦ absurd (true≢false (sym here ∙ none_where (within space) f.0 empty (omega (arith, below, st.within.harts))))
        | inr some ↦ ap not some
      ])
      (λ e. elim (cases_Bool (is_in_use m space)) [
        | inl yes_ ↦ yes_
        | inr none ↦
            let all : (h : ℕ) → within space h ≡ false = λ h. false_from_ne_true (within space h) (λ t.
            let p = and_parts (is_hart C h) (eqb (space_of H h) space) t in
            let below : h < C.harts = ltb-true h C.harts p.0 in
            let there = any_there (λ (x : HartState). eqb x.space space) idle_hart m.harts h (subst (λ n. h < n) (sym harts_count) below) (ap (λ s. eqb s space) (st.harts h below).space ∙ p.1) in
            true≢false (sym there ∙ none)) in
            let empty : is_empty (harts_where (within space)) ≡ true = ap is_empty (where_agree (within space) (λ _. false) (λ h _. all h)) in
            absurd (false≢true (sym (ap not empty) ∙ e))
      ])
