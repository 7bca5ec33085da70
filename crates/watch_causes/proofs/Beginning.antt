-- The findings that have begun, with one more verdict.
use Rattle.std.proofs.Common.{◌≡◌, ◌∙◌, ◌++◌, ℕ, Bool, true, false, List, [], ◌∷◌, Option, Some, None, ap, arith, filter, inl, inr, length, refl, suc, sym}
use Rattle.std.specs.Prelude.{◌&&◌, ◌≢◌, ◌↔◌, cond, find, is_some}
use Rattle.std.specs.Option.{is_none, option_or, unwrap_or}
use Rattle.std.proofs.lemmas.Bool.{cases_Bool, or_right}
use Rattle.pte.specs.declared.scheme.Scheme.{Scheme}
use Rattle.watch.specs.declared.trace.Record.{Record}
use Rattle.watch.specs.Trace.{Trace}
use Rattle.watch_engine.specs.declared.warning.Warning.{Warning}
use Rattle.watch_causes.specs.declared.begun.Begun.{Begun}
use Rattle.watch_causes.specs.declared.finding.Cause.{Cause}
use Rattle.watch_causes.specs.declared.finding.Finding.{Finding}
use Rattle.watch_causes.specs.declared.reach.Reach.TheVariants.{NotReached, Reachable, Used}
use Rattle.watch_causes.specs.Begins.{begun_after, begun_by, begun_of, begun_with}
use Rattle.watch_causes.specs.Counting.{begun_of_cause, findings_in, findings_of, times_begun}
use Rattle.watch_causes.specs.Findings.{Judged, begins_by, begins_finding, cause_by, cause_of, cause_with, finding_of, is_same_cause, is_same_finding}
use Rattle.watch_causes.specs.Judging.{judged, judged_after, verdicts_of}
use Rattle.watch_causes.specs.Reaches.{comes_back, is_use_of, is_used, reach_by, reach_of}
use Rattle.watch_causes.specs.Tallies.{is_of, more_if, tallies_of}
use Rattle.watch_causes.proofs.Counted.{findings_counted}
use Rattle.watch_causes.proofs.Knowing.{or-none, same-causes, same-finding}
use Rattle.watch_causes.proofs.Reaching.{back-stays}

-- ---- counts of what has begun

filter-append : {A : Type 0} (test : A → Bool) (xs : List A) (y : A) → length (filter test (xs ++ y ∷ [])) ≡ more_if (test y) (length (filter test xs))
filter-append test [] y = elim (test y) as (λ b. length (cond b (y ∷ []) []) ≡ more_if b 0) [ true ↦ refl | false ↦ refl ]
filter-append test (x ∷ xs) y =
    let rest = filter-append test xs y in
    elim (test x) as (λ b. length (cond b (x ∷ filter test (xs ++ y ∷ [])) (filter test (xs ++ y ∷ []))) ≡ more_if (test y) (length (cond b (x ∷ filter test xs) (filter test xs)))) [
      | true ↦ ap suc rest ∙ more-one (test y) (length (filter test xs))
      | false ↦ rest
    ]
  where
    more-one : (b : Bool) (n : ℕ) → suc (more_if b n) ≡ more_if b (suc n)
    more-one true n = omega arith
    more-one false n = refl

-- what counts in the same way as verdicts come
module _ (test : Begun → Bool) (count : List Judged → ℕ) (none : count [] ≡ 0)
    (begins : (newest : Record) (trace : Trace) (verdicts : List Judged) (v : Judged) → begins_finding v verdicts ≡ true → count (v ∷ verdicts) ≡ more_if (test (begun_by newest trace v)) (count verdicts))
    (goes-on : (verdicts : List Judged) (v : Judged) → begins_finding v verdicts ≡ false → count (v ∷ verdicts) ≡ count verdicts) where
  abbrev counted : List Begun → ℕ
  counted begun = length (filter test begun)

  with-one : (newest : Record) (trace : Trace) (verdicts : List Judged) (begun : List Begun) (v : Judged) → counted begun ≡ count verdicts
      → counted (begun_with newest trace verdicts begun v) ≡ count (v ∷ verdicts)
  with-one newest trace verdicts begun v is =
      elim (cases_Bool (begins_finding v verdicts)) [
        | inl first ↦
            ap (λ b. counted (cond b (begun ++ begun_by newest trace v ∷ []) begun)) first
            ∙ (filter-append test begun (begun_by newest trace v)
            ∙ (ap (more_if (test (begun_by newest trace v))) is ∙ sym (begins newest trace verdicts v first)))
        | inr later ↦
            ap (λ b. counted (cond b (begun ++ begun_by newest trace v ∷ []) begun)) later ∙ (is ∙ sym (goes-on verdicts v later))
      ]

  with-all : (scheme : Scheme) (newest : Record) (trace : Trace) (verdicts : List Judged) (begun : List Begun) (warnings : List Warning) → counted begun ≡ count verdicts
      → counted (begun_after scheme newest trace verdicts begun warnings) ≡ count (judged_after scheme newest trace verdicts warnings)
  with-all scheme newest trace verdicts begun [] is = is
  with-all scheme newest trace verdicts begun (w ∷ warnings) is =
      let v : Judged = judged scheme newest trace w in
      with-all scheme newest trace (v ∷ verdicts) (begun_with newest trace verdicts begun v) warnings (with-one newest trace verdicts begun v is)

  counts : (scheme : Scheme) (trace : Trace) (given : List (List Warning)) → counted (begun_of scheme trace given) ≡ count (verdicts_of scheme trace given)
  counts scheme [] given = sym none
  counts scheme (newest ∷ trace) [] = sym none
  counts scheme (newest ∷ trace) (warnings ∷ given) =
      with-all scheme newest trace (verdicts_of scheme trace given) (begun_of scheme trace given) warnings (counts scheme trace given)

-- ---- each finding begins once

none-is : {A : Type 0} (o : Option A) → is_none o ≡ true → o ≡ None
none-is None is = refl
none-is (Some x) is = cc

some-is : {A : Type 0} (o : Option A) → is_none o ≡ false → (x : A) × (o ≡ Some x)
some-is None is = cc
some-is (Some x) is = (x, refl)

module _ (f : Finding) where
  abbrev has-begun : List Judged → ℕ
  has-begun verdicts = more_if (is_some (cause_of verdicts f)) 0

  first-verdict : (verdicts : List Judged) (v : Judged) → begins_finding v verdicts ≡ true
      → has-begun (v ∷ verdicts) ≡ more_if (is_same_finding (finding_of v.warning) f) (has-begun verdicts)
  first-verdict verdicts v first =
      elim (cases_Bool (is_same_finding (finding_of v.warning) f)) [
        | inl same ↦
            let e : cause_of verdicts f ≡ None = sym (ap (cause_of verdicts) (same-finding (finding_of v.warning) f same)) ∙ none-is _ first in
            ap (λ o. more_if (is_some (option_or o (begins_by v f))) 0) e
            ∙ (ap (λ b. more_if (is_some (cond b (Some (cause_by v)) None)) 0) same
            ∙ (sym (ap (λ b. more_if b (more_if false 0)) same) ∙ sym (ap (λ o. more_if (is_same_finding (finding_of v.warning) f) (more_if (is_some o) 0)) e)))
        | inr other ↦
            ap (λ b. more_if (is_some (option_or (cause_of verdicts f) (cond b (Some (cause_by v)) None))) 0) other
            ∙ (ap (λ o. more_if (is_some o) 0) (or-none (cause_of verdicts f)) ∙ sym (ap (λ b. more_if b (has-begun verdicts)) other))
      ]

  later-verdict : (verdicts : List Judged) (v : Judged) → begins_finding v verdicts ≡ false → has-begun (v ∷ verdicts) ≡ has-begun verdicts
  later-verdict verdicts v later =
      let some = some-is (cause_of verdicts (finding_of v.warning)) later in
      sym (ap (λ o. more_if (is_some o) 0) (same-causes verdicts v some.0 some.1 f))

pub begun_once : (f : Finding) (scheme : Scheme) (trace : Trace) (given : List (List Warning))
    → times_begun f (begun_of scheme trace given) ≡ more_if (is_some (cause_of (verdicts_of scheme trace given) f)) 0
begun_once f scheme trace given =
    counts (λ b. is_same_finding (finding_of b.warning) f) (has-begun f) refl (λ newest trace verdicts v first. first-verdict f verdicts v first) (later-verdict f) scheme trace given

-- ---- as many of a cause as its tally counts

module _ (cause : Cause) where
  of-first : (verdicts : List Judged) (v : Judged) → begins_finding v verdicts ≡ true → findings_of cause (v ∷ verdicts) ≡ more_if (is_same_cause cause (cause_by v)) (findings_of cause verdicts)
  of-first verdicts v first =
      ap (λ b. more_if (b && is_same_cause cause (cause_with v verdicts)) (findings_of cause verdicts)) first
      ∙ ap (λ o. more_if (is_same_cause cause (unwrap_or o (cause_by v))) (findings_of cause verdicts)) (none-is _ first)

  of-later : (verdicts : List Judged) (v : Judged) → begins_finding v verdicts ≡ false → findings_of cause (v ∷ verdicts) ≡ findings_of cause verdicts
  of-later verdicts v later = ap (λ b. more_if (b && is_same_cause cause (cause_with v verdicts)) (findings_of cause verdicts)) later

pub begun_as_counted : (cause : Cause) (scheme : Scheme) (trace : Trace) (given : List (List Warning))
    → begun_of_cause cause (begun_of scheme trace given) ≡ findings_in (find (is_of cause) (tallies_of (verdicts_of scheme trace given)))
begun_as_counted cause scheme trace given =
    counts (λ b. is_same_cause cause b.cause) (findings_of cause) refl (λ newest trace verdicts v first. of-first cause verdicts v first) (of-later cause) scheme trace given
    ∙ sym (findings_counted cause (verdicts_of scheme trace given))

-- ---- reach

by-used : (used back : Bool) → reach_by used back ≡ Used → used ≡ true
by-used true back is = refl
by-used false true is = cc
by-used false false is = cc

pub used_by_a_use : (scheme : Scheme) (trace : Trace) (given : List (List Warning)) (b : Begun)
    → (reach_of scheme trace given b ≡ Used) ↔ (is_used (verdicts_of scheme trace given) (finding_of b.warning) ≡ true)
used_by_a_use scheme trace given b = (
  by-used (is_used (verdicts_of scheme trace given) (finding_of b.warning)) (comes_back scheme b.warning b.number trace),
  λ is. ap (λ used. reach_by used (comes_back scheme b.warning b.number trace)) is,
)

use-stays : (scheme : Scheme) (newest : Record) (trace : Trace) (verdicts : List Judged) (f : Finding) (warnings : List Warning) → is_used verdicts f ≡ true
    → is_used (judged_after scheme newest trace verdicts warnings) f ≡ true
use-stays scheme newest trace verdicts f [] is = is
use-stays scheme newest trace verdicts f (w ∷ warnings) is =
    let v : Judged = judged scheme newest trace w in
    use-stays scheme newest trace (v ∷ verdicts) f warnings (or_right (is_use_of f v) (is_used verdicts f) is)

pub used_stays : (scheme : Scheme) (trace : Trace) (given : List (List Warning)) (newest : Record) (warnings : List Warning) (b : Begun)
    → reach_of scheme trace given b ≡ Used → reach_of scheme (newest ∷ trace) (warnings ∷ given) b ≡ Used
used_stays scheme trace given newest warnings b is =
    ap (λ used. reach_by used (comes_back scheme b.warning b.number (newest ∷ trace)))
    (use-stays scheme newest trace (verdicts_of scheme trace given) (finding_of b.warning) warnings ((used_by_a_use scheme trace given b).0 is))

by-back : (used back : Bool) → reach_by used back ≡ Reachable → back ≡ true
by-back true back is = cc
by-back false true is = refl
by-back false false is = cc

never-lost : (used : Bool) → reach_by used true ≢ NotReached
never-lost true = λ is. cc
never-lost false = λ is. cc

pub reachable_stays : (scheme : Scheme) (trace : Trace) (given : List (List Warning)) (newest : Record) (warnings : List Warning) (b : Begun)
    → reach_of scheme trace given b ≡ Reachable → reach_of scheme (newest ∷ trace) (warnings ∷ given) b ≢ NotReached
reachable_stays scheme trace given newest warnings b is =
    let used : Bool = is_used (verdicts_of scheme (newest ∷ trace) (warnings ∷ given)) (finding_of b.warning) in
    let back = back-stays scheme b.warning b.number newest trace (by-back (is_used (verdicts_of scheme trace given) (finding_of b.warning)) (comes_back scheme b.warning b.number trace) is) in
    λ lost. never-lost used (ap (reach_by used) (sym back) ∙ lost)

pub ruleset reach_stays = (used_stays, reachable_stays)
