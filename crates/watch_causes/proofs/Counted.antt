-- The tallies have of each cause what the verdicts give.
use Rattle.std.proofs.Common.{◌≡◌, ◌∙◌, ℕ, Bool, true, false, ◌+◌, List, [], ◌∷◌, Option, Some, None, ap, sym, subst, inl, inr, refl, arith, length}
use Rattle.std.specs.Prelude.{◌&&◌, ◌==◌, cond, find, sum_by}
use Rattle.std.specs.Option.{option_map, option_or}
use Rattle.std.proofs.lemmas.Bool.{and_from, and_parts, cases_Bool, eq-eqb, eqb-true}
use Rattle.std.proofs.lemmas.List.Sums.{sum_by-cons}
use Rattle.watch.specs.Computed.{is_same}
use Rattle.watch.specs.declared.trace.Verdict.{Verdict}
use Rattle.watch.specs.declared.trace.Verdict.TheVariants.{Free, Reuse, Claimed, Used}
use Rattle.watch_causes.specs.declared.finding.Cause.{Cause}
use Rattle.watch_causes.specs.declared.reason.Reason.{Reason}
use Rattle.watch_causes.specs.declared.reason.Reason.TheVariants.{NoFlush, NoFence, OtherHarts, OtherSpaces, OtherPages, NotDone}
use Rattle.watch_causes.specs.declared.tally.Example.{Example}
use Rattle.watch_causes.specs.declared.tally.Tally.{Tally}
use Rattle.watch_causes.specs.declared.tally.Verdicts.{Verdicts}
use Rattle.watch_causes.specs.Counting.{example_of, finding_count, findings_in, findings_of, of_kind, sum_of, verdicts_in, verdicts_of}
use Rattle.watch_causes.specs.Findings.{Judged, begins_finding, cause_with, is_same_cause, is_same_reason, is_same_verdict, reason_number, verdict_number}
use Rattle.watch_causes.specs.Tallies.{counted, first_tally, is_of, more_if, no_verdicts, tallied, tallies_of, with_verdict}
use Rattle.watch_causes.proofs.Knowing.{bools-same, or-none}

-- ---- the same cause

abbrev verdict_at : ℕ → Verdict
verdict_at n = cond (n == 0) Free (cond (n == 1) Reuse (cond (n == 2) Claimed Used))

verdict-back : (k : Verdict) → verdict_at (verdict_number k) ≡ k
verdict-back Free = refl
verdict-back Reuse = refl
verdict-back Claimed = refl
verdict-back Used = refl

same-verdict : (a b : Verdict) → is_same_verdict a b ≡ true → a ≡ b
same-verdict a b is = sym (verdict-back a) ∙ (ap verdict_at (eqb-true (verdict_number a) (verdict_number b) is) ∙ verdict-back b)

abbrev reason_at : ℕ → Reason
reason_at n =
    cond (n == 0) NoFlush (cond (n == 1) NoFence (cond (n == 2) OtherHarts (cond (n == 3) OtherSpaces (cond (n == 4) OtherPages NotDone))))

reason-back : (r : Reason) → reason_at (reason_number r) ≡ r
reason-back NoFlush = refl
reason-back NoFence = refl
reason-back OtherHarts = refl
reason-back OtherSpaces = refl
reason-back OtherPages = refl
reason-back NotDone = refl

same-reason : (a b : Reason) → is_same_reason a b ≡ true → a ≡ b
same-reason a b is = sym (reason-back a) ∙ (ap reason_at (eqb-true (reason_number a) (reason_number b) is) ∙ reason-back b)

pub same-cause : (a b : Cause) → is_same_cause a b ≡ true → a ≡ b
same-cause a b is =
    let global = and_parts (is_same a.global b.global) _ is in
    let first = and_parts (is_same_verdict a.first b.first) _ global.1 in
    ap (λ g. record a { global = g }) (bools-same a.global b.global global.0)
    ∙ (ap (λ k. record a { global = b.global; first = k }) (same-verdict a.first b.first first.0)
    ∙ ap (λ r. record b { reason = r }) (same-reason a.reason b.reason first.1))

itself : (b : Bool) → is_same b b ≡ true
itself true = refl
itself false = refl

pub same-itself : (a : Cause) → is_same_cause a a ≡ true
same-itself a =
    and_from _ _ (itself a.global)
    (and_from _ _ (eq-eqb (verdict_number a.first) (verdict_number a.first) refl) (eq-eqb (reason_number a.reason) (reason_number a.reason) refl))

-- ---- what a verdict changes

module _ (cause : Cause) (begins : Bool) (v : Judged) where
  abbrev more : Tally → Tally
  more = tallied begins v.warning.verdict

  abbrev pub after : Option Tally → Tally
  after None = first_tally cause begins v
  after (Some t) = more t

  abbrev with : List Tally → List Tally
  with = with_verdict cause begins v

  pub find-own : (ts : List Tally) → find (is_of cause) (with ts) ≡ Some (after (find (is_of cause) ts))
  find-own [] = ap (λ b. cond b (Some (first_tally cause begins v)) None) (same-itself cause)
  find-own (t ∷ ts) =
      elim (cases_Bool (is_of cause t)) [
        | inl is ↦
            ap (λ b. find (is_of cause) (cond b (more t ∷ ts) (t ∷ with ts))) is
            ∙ (ap (λ b. cond b (Some (more t)) (find (is_of cause) ts)) is ∙ sym (ap (λ b. Some (after (cond b (Some t) (find (is_of cause) ts)))) is))
        | inr other ↦
            ap (λ b. find (is_of cause) (cond b (more t ∷ ts) (t ∷ with ts))) other
            ∙ (ap (λ b. cond b (Some t) (find (is_of cause) (with ts))) other
            ∙ (find-own ts ∙ sym (ap (λ b. Some (after (cond b (Some t) (find (is_of cause) ts)))) other)))
      ]

  pub find-other : (c : Cause) → is_same_cause c cause ≡ false → (ts : List Tally) → find (is_of c) (with ts) ≡ find (is_of c) ts
  find-other c apart [] = ap (λ b. cond b (Some (first_tally cause begins v)) None) apart
  find-other c apart (t ∷ ts) =
      elim (cases_Bool (is_of cause t)) [
        | inl is ↦
            let e : is_of c t ≡ false = ap (is_same_cause c) (sym (same-cause cause t.cause is)) ∙ apart in
            ap (λ b. find (is_of c) (cond b (more t ∷ ts) (t ∷ with ts))) is
            ∙ (ap (λ b. cond b (Some (more t)) (find (is_of c) ts)) e ∙ sym (ap (λ b. cond b (Some t) (find (is_of c) ts)) e))
        | inr other ↦
            ap (λ b. find (is_of c) (cond b (more t ∷ ts) (t ∷ with ts))) other
            ∙ ap (λ o. cond (is_of c t) (Some t) o) (find-other c apart ts)
      ]

  pub find-same : (c : Cause) → is_same_cause c cause ≡ true → (ts : List Tally) → find (is_of c) (with ts) ≡ Some (after (find (is_of c) ts))
  find-same c same ts =
      let P : Cause → Type 0 = λ k. find (is_of k) (with ts) ≡ Some (after (find (is_of k) ts)) in
      subst P (sym (same-cause c cause same)) (find-own ts)

-- ---- sums over all causes

more-sum : (b : Bool) (m n : ℕ) → more_if b m + n ≡ more_if b (m + n)
more-sum true m n = omega arith
more-sum false m n = refl

sum-more : (b : Bool) (m n : ℕ) → m + more_if b n ≡ more_if b (m + n)
sum-more true m n = omega arith
sum-more false m n = refl

one-counted : (k : Verdict) (n : Verdicts) → sum_of (counted k n) ≡ sum_of n + 1
one-counted Free n = omega arith
one-counted Reuse n = omega arith
one-counted Claimed n = omega arith
one-counted Used n = omega arith

abbrev findings_sum : List Tally → ℕ
findings_sum = sum_by (λ (t : Tally). t.findings)

abbrev verdicts_sum : List Tally → ℕ
verdicts_sum = sum_by (λ (t : Tally). sum_of t.verdicts)

abbrev findings_in_one : Tally → ℕ
findings_in_one t = t.findings

abbrev verdicts_in_one : Tally → ℕ
verdicts_in_one t = sum_of t.verdicts

module _ (cause : Cause) (begins : Bool) (v : Judged) where
  abbrev next : Tally → Tally
  next = tallied begins v.warning.verdict

  abbrev withal : List Tally → List Tally
  withal = with_verdict cause begins v

  findings-with : (ts : List Tally) → findings_sum (withal ts) ≡ more_if begins (findings_sum ts)
  findings-with [] = sum_by-cons findings_in_one (first_tally cause begins v) [] ∙ more-sum begins 0 0
  findings-with (t ∷ ts) =
      let whole : findings_sum (t ∷ ts) ≡ t.findings + findings_sum ts = sum_by-cons findings_in_one t ts in
      elim (is_of cause t) as (λ b. findings_sum (cond b (next t ∷ ts) (t ∷ withal ts)) ≡ more_if begins (findings_sum (t ∷ ts))) [
        | true ↦ sum_by-cons findings_in_one (next t) ts ∙ (more-sum begins t.findings (findings_sum ts) ∙ ap (more_if begins) (sym whole))
        | false ↦
            sum_by-cons findings_in_one t (withal ts)
            ∙ (ap (λ n. t.findings + n) (findings-with ts) ∙ (sum-more begins t.findings (findings_sum ts) ∙ ap (more_if begins) (sym whole)))
      ]

  verdicts-with : (ts : List Tally) → verdicts_sum (withal ts) ≡ verdicts_sum ts + 1
  verdicts-with [] = sum_by-cons verdicts_in_one (first_tally cause begins v) [] ∙ ap (λ n. n + 0) (one-counted v.warning.verdict no_verdicts)
  verdicts-with (t ∷ ts) =
      let whole : verdicts_sum (t ∷ ts) ≡ sum_of t.verdicts + verdicts_sum ts = sum_by-cons verdicts_in_one t ts in
      let one : sum_of (counted v.warning.verdict t.verdicts) ≡ sum_of t.verdicts + 1 = one-counted v.warning.verdict t.verdicts in
      let here : verdicts_sum (next t ∷ ts) ≡ sum_of (counted v.warning.verdict t.verdicts) + verdicts_sum ts = sum_by-cons verdicts_in_one (next t) ts in
      let there : verdicts_sum (t ∷ withal ts) ≡ sum_of t.verdicts + verdicts_sum (withal ts) = sum_by-cons verdicts_in_one t (withal ts) in
      let rest : verdicts_sum (withal ts) ≡ verdicts_sum ts + 1 = verdicts-with ts in
      let first : verdicts_sum (next t ∷ ts) ≡ verdicts_sum (t ∷ ts) + 1 = omega (arith, here, one, whole) in
      let second : verdicts_sum (t ∷ withal ts) ≡ verdicts_sum (t ∷ ts) + 1 = omega (arith, there, rest, whole) in
      elim (is_of cause t) as (λ b. verdicts_sum (cond b (next t ∷ ts) (t ∷ withal ts)) ≡ verdicts_sum (t ∷ ts) + 1) [ true ↦ first | false ↦ second ]

pub findings_add_up : (verdicts : List Judged) → sum_by (λ (t : Tally). t.findings) (tallies_of verdicts) ≡ finding_count verdicts
findings_add_up [] = refl
findings_add_up (newest ∷ verdicts) =
    findings-with (cause_with newest verdicts) (begins_finding newest verdicts) newest (tallies_of verdicts)
    ∙ ap (more_if (begins_finding newest verdicts)) (findings_add_up verdicts)

pub verdicts_add_up : (verdicts : List Judged) → sum_by (λ (t : Tally). sum_of t.verdicts) (tallies_of verdicts) ≡ length verdicts
verdicts_add_up [] = refl
verdicts_add_up (newest ∷ verdicts) =
    let rest = verdicts_add_up verdicts in
    verdicts-with (cause_with newest verdicts) (begins_finding newest verdicts) newest (tallies_of verdicts)
    ∙ omega (arith, rest)

-- ---- counts of each cause

and-true : (b : Bool) → (b && true) ≡ b
and-true true = refl
and-true false = refl

and-false : (b : Bool) → (b && false) ≡ false
and-false true = refl
and-false false = refl

kind-counted : (k v : Verdict) (n : Verdicts) → of_kind k (counted v n) ≡ more_if (is_same_verdict k v) (of_kind k n)
kind-counted Free Free n = refl
kind-counted Free Reuse n = refl
kind-counted Free Claimed n = refl
kind-counted Free Used n = refl
kind-counted Reuse Free n = refl
kind-counted Reuse Reuse n = refl
kind-counted Reuse Claimed n = refl
kind-counted Reuse Used n = refl
kind-counted Claimed Free n = refl
kind-counted Claimed Reuse n = refl
kind-counted Claimed Claimed n = refl
kind-counted Claimed Used n = refl
kind-counted Used Free n = refl
kind-counted Used Reuse n = refl
kind-counted Used Claimed n = refl
kind-counted Used Used n = refl

kind-none : (k : Verdict) → of_kind k no_verdicts ≡ 0
kind-none Free = refl
kind-none Reuse = refl
kind-none Claimed = refl
kind-none Used = refl

abbrev example_in : Option Tally → Option Example
example_in = option_map (λ (t : Tally). t.example)

module _ (cause : Cause) (begins : Bool) (v : Judged) where
  more-findings : (o : Option Tally) → findings_in (Some (after cause begins v o)) ≡ more_if begins (findings_in o)
  more-findings None = refl
  more-findings (Some t) = refl

  more-verdicts : (k : Verdict) (o : Option Tally) → verdicts_in k (Some (after cause begins v o)) ≡ more_if (is_same_verdict k v.warning.verdict) (verdicts_in k o)
  more-verdicts k None =
      kind-counted k v.warning.verdict no_verdicts
      ∙ ap (more_if (is_same_verdict k v.warning.verdict)) (kind-none k)
  more-verdicts k (Some t) = kind-counted k v.warning.verdict t.verdicts

  same-example : (o : Option Tally) → example_in (Some (after cause begins v o)) ≡ option_or (example_in o) (Some (record { number = v.number; warning = v.warning }))
  same-example None = refl
  same-example (Some t) = refl

pub findings_counted : (c : Cause) (verdicts : List Judged) → findings_in (find (is_of c) (tallies_of verdicts)) ≡ findings_of c verdicts
findings_counted c [] = refl
findings_counted c (newest ∷ verdicts) =
    let cause : Cause = cause_with newest verdicts in
    let begins : Bool = begins_finding newest verdicts in
    let rest : ℕ = findings_of c verdicts in
    elim (cases_Bool (is_same_cause c cause)) [
      | inl same ↦
          ap findings_in (find-same cause begins newest c same (tallies_of verdicts))
          ∙ (more-findings cause begins newest (find (is_of c) (tallies_of verdicts))
          ∙ (ap (more_if begins) (findings_counted c verdicts)
          ∙ sym (ap (λ b. more_if (begins && b) rest) same ∙ ap (λ b. more_if b rest) (and-true begins))))
      | inr other ↦
          ap findings_in (find-other cause begins newest c other (tallies_of verdicts))
          ∙ (findings_counted c verdicts
          ∙ sym (ap (λ b. more_if (begins && b) rest) other ∙ ap (λ b. more_if b rest) (and-false begins)))
    ]

pub verdicts_counted : (c : Cause) (kind : Verdict) (verdicts : List Judged) → verdicts_in kind (find (is_of c) (tallies_of verdicts)) ≡ verdicts_of c kind verdicts
verdicts_counted c kind [] = refl
verdicts_counted c kind (newest ∷ verdicts) =
    let cause : Cause = cause_with newest verdicts in
    let begins : Bool = begins_finding newest verdicts in
    let is : Bool = is_same_verdict kind newest.warning.verdict in
    let rest : ℕ = verdicts_of c kind verdicts in
    elim (cases_Bool (is_same_cause c cause)) [
      | inl same ↦
          ap (verdicts_in kind) (find-same cause begins newest c same (tallies_of verdicts))
          ∙ (more-verdicts cause begins newest kind (find (is_of c) (tallies_of verdicts))
          ∙ (ap (more_if is) (verdicts_counted c kind verdicts) ∙ sym (ap (λ b. more_if (b && is) rest) same)))
      | inr other ↦
          ap (verdicts_in kind) (find-other cause begins newest c other (tallies_of verdicts))
          ∙ (verdicts_counted c kind verdicts ∙ sym (ap (λ b. more_if (b && is) rest) other))
    ]

pub examples_counted : (c : Cause) (verdicts : List Judged) → option_map (λ (t : Tally). t.example) (find (is_of c) (tallies_of verdicts)) ≡ example_of c verdicts
examples_counted c [] = refl
examples_counted c (newest ∷ verdicts) =
    let cause : Cause = cause_with newest verdicts in
    let begins : Bool = begins_finding newest verdicts in
    let one : Option Example = Some (record { number = newest.number; warning = newest.warning }) in
    let rest : Option Example = example_of c verdicts in
    elim (cases_Bool (is_same_cause c cause)) [
      | inl same ↦
          ap example_in (find-same cause begins newest c same (tallies_of verdicts))
          ∙ (same-example cause begins newest (find (is_of c) (tallies_of verdicts))
          ∙ (ap (λ o. option_or o one) (examples_counted c verdicts) ∙ sym (ap (λ b. option_or rest (cond b one None)) same)))
      | inr other ↦
          ap example_in (find-other cause begins newest c other (tallies_of verdicts))
          ∙ (examples_counted c verdicts ∙ sym (ap (λ b. option_or rest (cond b one None)) other ∙ or-none rest))
    ]

pub ruleset counts = (findings_counted, verdicts_counted, examples_counted)

pub ruleset sums = (findings_add_up, verdicts_add_up)
