-- The first verdict of each finding, with one more verdict.
use Rattle.std.proofs.Common.{◌≡◌, ◌∙◌, Bool, true, false, List, [], ◌∷◌, ◌++◌, Option, Some, None, ap, sym, inl, inr, refl}
use Rattle.std.specs.Prelude.{cond, map}
use Rattle.std.specs.Option.{is_none, is_some, option_map, option_or, unwrap_or}
use Rattle.std.specs.Ordering.{is_eq}
use Rattle.std.proofs.lemmas.Bool.{cases_Bool}
use Rattle.watch_causes.specs.declared.finding.Finding.{Finding}
use Rattle.watch_causes.specs.Findings.{begins_by, cause_by, cause_of, finding_cmp, is_same_finding}
use Rattle.watch_causes.specs.KnownFindings.{KnownEntry, Sourced, entry_of, finding, first_of, first_with, is_known, known_of}
use Rattle.watch_causes.proofs.Knowing.{or-none, same-by-order, same-by-refl, same-finding}

-- ---- options

module _ {A B : Type 0} (g : A → B) where
  or-some : (o p : Option A) (b : B) → option_map g o ≡ Some b → option_map g (option_or o p) ≡ option_map g o
  or-some None p b is = absurd cc
  or-some (Some x) p b is = refl

  pub is-begun : (o : Option A) (b : B) → option_map g o ≡ Some b → is_none o ≡ false
  is-begun None b is = absurd cc
  is-begun (Some x) b is = refl

  pub not-begun : (o : Option A) → option_map g o ≡ None → o ≡ None
  not-begun None is = refl
  not-begun (Some x) is = absurd cc

  pub known-by : (o : Option A) (x : A) (b : B) → option_map g o ≡ Some b → g (unwrap_or o x) ≡ b
  known-by None x b is = absurd cc
  known-by (Some y) x b is = ap (λ o. unwrap_or o b) is

  map-or : (o p : Option A) → option_map g (option_or o p) ≡ option_or (option_map g o) (option_map g p)
  map-or None p = refl
  map-or (Some x) p = refl

  map-if : (b : Bool) (x : A) → option_map g (cond b (Some x) None) ≡ cond b (Some (g x)) None
  map-if true x = refl
  map-if false x = refl

own-first : {A : Type 0} (o : Option A) (x : A) → option_or o (Some x) ≡ Some (unwrap_or o x)
own-first None x = refl
own-first (Some y) x = refl

-- ---- one more verdict

module _ (known : List KnownEntry) (verdicts : List Sourced) (v : Sourced) where
  abbrev own : Finding
  own = finding v

  abbrev answer : Sourced → Bool
  answer w = is_some (entry_of known w)

  abbrev by_own : Bool → Option Sourced
  by_own same = cond same (Some v) None

  other-first : (f : Finding) → is_same_finding own f ≡ false → first_of verdicts f ≡ first_of (v ∷ verdicts) f
  other-first f other = sym (ap (λ same. option_or (first_of verdicts f) (by_own same)) other ∙ or-none (first_of verdicts f))

  pub same-known : (b : Bool) → known_of known verdicts own ≡ Some b → (f : Finding) → known_of known verdicts f ≡ known_of known (v ∷ verdicts) f
  same-known b some f =
      elim (cases_Bool (is_same_finding own f)) [
        | inl same ↦
            sym (or-some answer (first_of verdicts f) (by_own (is_same_finding own f)) b (sym (ap (known_of known verdicts) (same-finding own f same)) ∙ some))
        | inr other ↦ ap (option_map answer) (other-first f other)
      ]

  pub one-more-known : first_of verdicts own ≡ None → (f : Finding)
      → cond (is_eq (finding_cmp own f)) (Some (answer v)) (known_of known verdicts f) ≡ known_of known (v ∷ verdicts) f
  one-more-known none f =
      ap (λ same. cond same (Some (answer v)) (known_of known verdicts f)) (same-by-order own f)
      ∙ elim (cases_Bool (is_same_finding own f)) [
        | inl same ↦
            let e : first_of verdicts f ≡ None = sym (ap (first_of verdicts) (same-finding own f same)) ∙ none in
            ap (λ b. cond b (Some (answer v)) (known_of known verdicts f)) same
            ∙ sym (ap (λ o. option_map answer (option_or o (by_own (is_same_finding own f)))) e ∙ ap (λ b. option_map answer (by_own b)) same)
        | inr other ↦
            ap (λ b. cond b (Some (answer v)) (known_of known verdicts f)) other ∙ ap (option_map answer) (other-first f other)
      ]

-- ---- laws

first-stays : (f : Finding) (first : Sourced) (between verdicts : List Sourced) → first_of verdicts f ≡ Some first → first_of (between ++ verdicts) f ≡ Some first
first-stays f first [] verdicts is = is
first-stays f first (v ∷ between) verdicts is =
    ap (λ o. option_or o (cond (is_same_finding (finding v) f) (Some v) None)) (first-stays f first between verdicts is)

own-verdict : (a : Sourced) (before : List Sourced) → first_of (a ∷ before) (finding a) ≡ Some (first_with a before)
own-verdict a before =
    ap (λ b. option_or (first_of before (finding a)) (cond b (Some a) None)) (same-by-refl (finding a))
    ∙ own-first (first_of before (finding a)) a

pub as_a_whole : (known : List KnownEntry) (a b : Sourced) (before between : List Sourced) → finding a ≡ finding b → is_known known b (between ++ a ∷ before) ≡ is_known known a before
as_a_whole known a b before between same =
    ap (λ o. is_some (entry_of known (unwrap_or o b)))
    (ap (first_of (between ++ a ∷ before)) (sym same)
    ∙ first-stays (finding a) (first_with a before) between (a ∷ before) (own-verdict a before))

pub makes_the_cause : (f : Finding) (verdicts : List Sourced) → option_map (λ (v : Sourced). cause_by v.judged) (first_of verdicts f) ≡ cause_of (map (λ (v : Sourced). v.judged) verdicts) f
makes_the_cause f [] = refl
makes_the_cause f (v ∷ verdicts) =
    map-or (λ (v : Sourced). cause_by v.judged) (first_of verdicts f) (cond (is_same_finding (finding v) f) (Some v) None)
    ∙ (ap (option_or (option_map (λ (v : Sourced). cause_by v.judged) (first_of verdicts f))) (map-if (λ (v : Sourced). cause_by v.judged) (is_same_finding (finding v) f) v)
    ∙ ap (λ o. option_or o (begins_by v.judged f)) (makes_the_cause f verdicts))
