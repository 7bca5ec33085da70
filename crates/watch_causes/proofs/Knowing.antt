-- The causes of findings, with one more verdict.
use Rattle.std.proofs.Common.{◌≡◌, ◌∙◌, ℕ, Bool, true, false, List, ◌∷◌, Option, Some, None, ap, sym, inl, inr, refl, arith}
use Rattle.std.specs.Prelude.{◌&&◌, ◌==◌, cond, Result, Ok, Err, OnOk}
use Rattle.std.specs.Option.{is_none, option_or, unwrap_or}
use Rattle.std.specs.Ordering.{bool_cmp, is_eq, nat_cmp, ordering_then}
use Rattle.std.specs.Result.{is_err}
use Rattle.std.specs.declared.cmp.Ordering.{Ordering}
use Rattle.std.specs.declared.cmp.Ordering.TheVariants.{Less, Equal, Greater}
use Rattle.std.proofs.lemmas.Bool.{and_from, and_parts, cases_Bool, eq-eqb, eqb-true}
use Rattle.std.proofs.lemmas.Bool.Decides.{nat_tests}
use Rattle.watch.specs.Computed.{is_same}
use Rattle.watch_causes.specs.declared.finding.Cause.{Cause}
use Rattle.watch_causes.specs.declared.finding.Finding.{Finding}
use Rattle.watch_causes.specs.Findings.{Judged, begins_by, cause_by, cause_of, cause_with, finding_cmp, finding_of, is_same_finding}
use Rattle.watch_causes.specs.Tallies.{tallies_of, with_verdict}

pub if-fine : {A E P : Type 0} (r : Result A E) (failed : Bool) → failed ≡ is_err r → failed ≡ false → OnOk r P → P
if-fine (Ok x) failed is fine done = done
if-fine (Err e) failed is fine done = absurd (let never : true ≡ false = sym is ∙ fine in cc)

-- ---- the order of findings tells them apart

pub then-of : (o p : Ordering) (a b : Bool) → is_eq o ≡ a → is_eq p ≡ b → is_eq (ordering_then o p) ≡ (a && b)
then-of Less p a b first rest = ap (λ v. v && b) first
then-of Equal p a b first rest = rest ∙ ap (λ v. v && b) first
then-of Greater p a b first rest = ap (λ v. v && b) first

pub is-same : (a b : ℕ) → is_eq (nat_cmp a b) ≡ (a == b)
is-same a b = grind (arith, nat_tests)

pub of-bools : (a b : Bool) → is_eq (bool_cmp a b) ≡ is_same a b
of-bools true true = refl
of-bools true false = refl
of-bools false true = refl
of-bools false false = refl

pub same-by-order : (a b : Finding) → is_eq (finding_cmp a b) ≡ is_same_finding a b
same-by-order a b =
    then-of _ _ _ _ (is-same a.since b.since)
    (then-of _ _ _ _ (is-same a.hart b.hart)
    (then-of _ _ _ _ (is-same a.base b.base)
    (then-of _ _ _ _ (is-same a.level b.level)
    (then-of _ _ _ _ (of-bools a.global b.global) (then-of _ _ _ _ (is-same a.asid b.asid) (is-same a.root b.root))))))

pub bools-same : (a b : Bool) → is_same a b ≡ true → a ≡ b
bools-same true b is = sym is
bools-same false true is = is
bools-same false false is = refl

pub same-finding : (a b : Finding) → is_same_finding a b ≡ true → a ≡ b
same-finding a b is =
    let since = and_parts (a.since == b.since) _ is in
    let hart = and_parts (a.hart == b.hart) _ since.1 in
    let base = and_parts (a.base == b.base) _ hart.1 in
    let level = and_parts (a.level == b.level) _ base.1 in
    let global = and_parts (is_same a.global b.global) _ level.1 in
    let asid = and_parts (a.asid == b.asid) _ global.1 in
    ap (λ n. record a { since = n }) (eqb-true a.since b.since since.0)
    ∙ (ap (λ n. record a { since = b.since; hart = n }) (eqb-true a.hart b.hart hart.0)
    ∙ (ap (λ n. record a { since = b.since; hart = b.hart; base = n }) (eqb-true a.base b.base base.0)
    ∙ (ap (λ n. record a { since = b.since; hart = b.hart; base = b.base; level = n }) (eqb-true a.level b.level level.0)
    ∙ (ap (λ n. record b { global = n; asid = a.asid; root = a.root }) (bools-same a.global b.global global.0)
    ∙ (ap (λ n. record b { asid = n; root = a.root }) (eqb-true a.asid b.asid asid.0)
    ∙ ap (λ n. record b { root = n }) (eqb-true a.root b.root asid.1))))))

-- ---- one more verdict

pub or-none : {A : Type 0} (o : Option A) → option_or o None ≡ o
or-none None = refl
or-none (Some x) = refl

module _ (verdicts : List Judged) (v : Judged) where
  abbrev own : Finding
  own = finding_of v.warning

  abbrev by_own : Bool → Option Cause
  by_own same = cond same (Some (cause_by v)) None

  other-cause : (f : Finding) → is_same_finding own f ≡ false → cause_of verdicts f ≡ cause_of (v ∷ verdicts) f
  other-cause f other = sym (ap (λ same. option_or (cause_of verdicts f) (by_own same)) other ∙ or-none (cause_of verdicts f))

  pub same-causes : (cause : Cause) → cause_of verdicts own ≡ Some cause → (f : Finding) → cause_of verdicts f ≡ cause_of (v ∷ verdicts) f
  same-causes cause some f =
      elim (cases_Bool (is_same_finding own f)) [
        | inl same ↦
            let e : cause_of verdicts f ≡ Some cause = sym (ap (cause_of verdicts) (same-finding own f same)) ∙ some in
            e ∙ sym (ap (λ o. option_or o (begins_by v f)) e)
        | inr other ↦ other-cause f other
      ]

  pub one-more-cause : cause_of verdicts own ≡ None → (f : Finding)
      → cond (is_eq (finding_cmp own f)) (Some (cause_by v)) (cause_of verdicts f) ≡ cause_of (v ∷ verdicts) f
  one-more-cause none f =
      ap (λ same. cond same (Some (cause_by v)) (cause_of verdicts f)) (same-by-order own f)
      ∙ elim (cases_Bool (is_same_finding own f)) [
        | inl same ↦
            let e : cause_of verdicts f ≡ None = sym (ap (cause_of verdicts) (same-finding own f same)) ∙ none in
            ap (λ b. cond b (Some (cause_by v)) (cause_of verdicts f)) same
            ∙ sym (ap (λ o. option_or o (begins_by v f)) e ∙ ap by_own same)
        | inr other ↦ ap (λ b. cond b (Some (cause_by v)) (cause_of verdicts f)) other ∙ other-cause f other
      ]

  pub with-known : (o : Option Cause) → cause_of verdicts own ≡ o
      → with_verdict (unwrap_or o (cause_by v)) (is_none o) v (tallies_of verdicts) ≡ tallies_of (v ∷ verdicts)
  with-known o is = sym (ap (λ o. with_verdict (unwrap_or o (cause_by v)) (is_none o) v (tallies_of verdicts)) is)

-- ---- laws

pub cause_stays : (f : Finding) (cause : Cause) (next : Judged) (verdicts : List Judged) → cause_of verdicts f ≡ Some cause → cause_of (next ∷ verdicts) f ≡ Some cause
cause_stays f cause next verdicts is = ap (λ o. option_or o (begins_by next f)) is

own-cause : (o : Option Cause) (cause : Cause) → option_or o (Some cause) ≡ Some (unwrap_or o cause)
own-cause None cause = refl
own-cause (Some c) cause = refl

pub same-by-refl : (f : Finding) → is_same_finding f f ≡ true
same-by-refl f =
    and_from _ _ (eq-eqb f.since f.since refl)
    (and_from _ _ (eq-eqb f.hart f.hart refl)
    (and_from _ _ (eq-eqb f.base f.base refl)
    (and_from _ _ (eq-eqb f.level f.level refl)
    (and_from _ _ (sym (of-bools f.global f.global) ∙ (elim f.global as (λ b. is_eq (bool_cmp b b) ≡ true) [ true ↦ refl | false ↦ refl ]))
    (and_from _ _ (eq-eqb f.asid f.asid refl) (eq-eqb f.root f.root refl))))))

pub verdict_has_cause : (next : Judged) (verdicts : List Judged) → cause_of (next ∷ verdicts) (finding_of next.warning) ≡ Some (cause_with next verdicts)
verdict_has_cause next verdicts =
    let o : Option Cause = cause_of verdicts (finding_of next.warning) in
    ap (λ b. option_or o (cond b (Some (cause_by next)) None)) (same-by-refl (finding_of next.warning)) ∙ own-cause o (cause_by next)

pub ruleset causes_of_findings = (cause_stays, verdict_has_cause)
