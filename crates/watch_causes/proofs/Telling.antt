-- The parts of a story, and what they alone give.
use Rattle.std.proofs.Common.{◌≡◌, ◌∙◌, ◌+◌, ◌<◌, ◌≤◌, zero, suc, ℕ, Bool, true, false, cond, List, [], ◌∷◌, ap, arith, get_or, inl, inr, length, map, refl, subst, sym}
use Rattle.std.specs.Prelude.{◌==◌, Contains}
use Rattle.std.specs.List.{list_any}
use Rattle.std.proofs.lemmas.Bool.{and_from, and_parts, cases_Bool, eqb-true, or_cases}
use Rattle.pte.specs.declared.scheme.Scheme.{Scheme}
use Rattle.pte.specs.Entry.{is_user, may_execute, may_read, may_write}
use Rattle.pte.specs.declared.flags.PteFlags.{PteFlags}
use Rattle.watch.specs.Computed.{is_same as is_same_bool}
use Rattle.watch.specs.declared.trace.Record.{Record}
use Rattle.watch.specs.declared.trace.Verdict.{Verdict}
use Rattle.watch.specs.declared.trace.Verdict.TheVariants.{Free, Reuse, Claimed, Used}
use Rattle.watch.specs.Holding.{Translation}
use Rattle.watch.specs.Trace.{Trace}
use Rattle.watch.specs.WorkedTraces.{recorded, trace_of}
use Rattle.watch_engine.specs.declared.warning.Warning.{Warning}
use Rattle.watch_engine.specs.Warnings.{AreWarnings, IsStaleFrom, has_same_rights}
use Rattle.watch_causes.specs.declared.role.Role.{Role}
use Rattle.watch_causes.specs.declared.role.Role.TheVariants.{Other}
use Rattle.watch_causes.specs.declared.stories.Part.{Part}
use Rattle.watch_causes.specs.Findings.{finding_of, is_same_verdict}
use Rattle.watch_causes.specs.Stories.{AreLast, Gives, IsDueAt, in_story, is_fence_since, is_same, number_at, part_of, parts_from, told, with_part}
use Rattle.watch_causes.proofs.Knowing.{same-finding}

pub under_scheme : {newest : Record} {trace : Trace} {warnings : List Warning} (a b : Scheme) → a ≡ b → AreWarnings a newest trace warnings → AreWarnings b newest trace warnings
under_scheme {newest} {trace} {warnings} a b is are = subst (λ (s : Scheme). AreWarnings s newest trace warnings) is are

-- ---- some of the warnings on the parts alone is the verdict

any-at : (test : Warning → Bool) (warnings : List Warning) → list_any test warnings ≡ true → (w : Warning) × Contains warnings w × (test w ≡ true)
any-at test [] some = cc
any-at test (v ∷ warnings) some =
    elim (or_cases (test v) (list_any test warnings) some) [
      | inl here ↦ (v, (0, omega arith, refl), here)
      | inr there ↦ let at = any-at test warnings there in (at.0, (suc at.1.0, omega (arith, at.1.1), at.1.2), at.2)
    ]

no-warning : (alone : List Warning) (v : Warning) → alone ≡ [] → Contains alone v → ⊥
no-warning [] v none within = absurd (omega (arith, within.1))
no-warning (w ∷ alone) v none within = cc

last-due : (scheme : Scheme) (trace : Trace) (alone : List Warning) (v : Warning) → AreLast scheme trace alone → Contains alone v → IsDueAt scheme trace v
last-due scheme [] alone v are within = no-warning alone v are within
last-due scheme (newest ∷ trace) alone v are within = are.each v within

same-verdict : (a b : Verdict) → is_same_verdict a b ≡ true → a ≡ b
same-verdict Free Free is = refl
same-verdict Free Reuse is = cc
same-verdict Free Claimed is = cc
same-verdict Free Used is = cc
same-verdict Reuse Free is = cc
same-verdict Reuse Reuse is = refl
same-verdict Reuse Claimed is = cc
same-verdict Reuse Used is = cc
same-verdict Claimed Free is = cc
same-verdict Claimed Reuse is = cc
same-verdict Claimed Claimed is = refl
same-verdict Claimed Used is = cc
same-verdict Used Free is = cc
same-verdict Used Reuse is = cc
same-verdict Used Claimed is = cc
same-verdict Used Used is = refl

pub gives_by : (scheme : Scheme) (parts : List Part) (w : Warning) (alone : List Warning)
    → AreLast scheme (told parts) alone → list_any (λ v. is_same parts v w) alone ≡ true → Gives scheme parts w
gives_by scheme parts w alone are some =
    let at = any-at (λ v. is_same parts v w) alone some in
    let v : Warning = at.0 in
    let verdict = and_parts (is_same_verdict v.verdict w.verdict) _ at.2 in
    let frames = and_parts (v.entry.ppn == w.entry.ppn) _ verdict.1 in
    let rights = and_parts (has_same_rights v.entry.flags w.entry.flags) _ frames.1 in
    record {
      alone = v;
      due = last-due scheme (told parts) alone v are at.1;
      verdict = same-verdict v.verdict w.verdict verdict.0;
      frames = eqb-true v.entry.ppn w.entry.ppn frames.0;
      rights = rights.0;
      finding = same-finding (finding_of (in_story parts v)) (finding_of w) rights.1;
    }

-- ---- where all records are told

abbrev pub every : ℕ → Bool
every number = true

module _ (scheme : Scheme) (w : Warning) (named : ℕ → Bool) where
  abbrev all-from : ℕ → List Record → List Part
  all-from = parts_from scheme w every named

  with-all : {Y : Type 0} (F : List Part → Y) (number : ℕ) (made : Record) (parts : List Part)
      → ((role : Role) → F (record { number = number; made = made; role = role } ∷ parts) ≡ F (record { number = number; made = made; role = Other } ∷ parts))
      → F (with_part scheme w true (named number) number made parts) ≡ F (record { number = number; made = made; role = Other } ∷ parts)
  with-all F number made parts any =
      elim (cases_Bool (is_fence_since w number made)) [
        | inl fence ↦ ap (λ (b : Bool). F (cond b (part_of scheme w true number made ∷ parts) (part_of scheme w (named number) number made ∷ parts))) fence ∙ any _
        | inr other ↦ ap (λ (b : Bool). F (cond b (part_of scheme w true number made ∷ parts) (part_of scheme w (named number) number made ∷ parts))) other ∙ any _
      ]

  all-made : (n : ℕ) (records : List Record) → map (λ (p : Part). p.made) (all-from n records) ≡ records
  all-made n [] = refl
  all-made n (made ∷ records) =
      with-all (map (λ (p : Part). p.made)) n made (all-from (n + 1) records) (λ role. refl)
      ∙ ap (λ rs. made ∷ rs) (all-made (n + 1) records)

  all-numbers : (n : ℕ) (records : List Record) (i : ℕ) → i < length records
      → get_or (map (λ (p : Part). p.number) (all-from n records)) i 0 ≡ n + i
  all-numbers n [] i within = absurd (omega (arith, within))
  all-numbers n (made ∷ records) zero within =
      with-all (λ (ps : List Part). get_or (map (λ (p : Part). p.number) ps) 0 0) n made (all-from (n + 1) records) (λ role. refl) ∙ omega arith
  all-numbers n (made ∷ records) (suc i) within =
      with-all (λ (ps : List Part). get_or (map (λ (p : Part). p.number) ps) (suc i) 0) n made (all-from (n + 1) records) (λ role. refl)
      ∙ (all-numbers (n + 1) records i (omega (arith, within)) ∙ omega arith)

own-number : (scheme : Scheme) (w : Warning) (named : ℕ → Bool) (records : List Record) (n : ℕ) → 0 < n → n ≤ length records
    → number_at (parts_from scheme w every named 1 records) n ≡ n
own-number scheme w named records zero some within = absurd (omega (arith, some))
own-number scheme w named records (suc n) some within =
    all-numbers scheme w named 1 records n (omega (arith, within)) ∙ omega arith

traced-length : (trace : Trace) (records : List Record) → length (recorded trace records) ≡ length records + length trace
traced-length trace [] = omega arith
traced-length trace (made ∷ records) = traced-length (made ∷ trace) records ∙ omega arith

abbrev AreMoments : Type 0
AreMoments =
    (scheme : Scheme) (trace : Trace) (hart moment : ℕ) (x : Translation)
    → IsStaleFrom scheme moment trace hart x → (0 < moment) × (moment ≤ length trace)

since-range : AreMoments → (scheme : Scheme) (trace : Trace) (w : Warning) → IsDueAt scheme trace w
    → (0 < w.stale_since) × (w.stale_since ≤ length trace)
since-range range scheme [] w due = absurd due
since-range range scheme (newest ∷ trace) w due =
    let within = range scheme trace w.hart w.stale_since _ due.1 in
    (within.0, omega (arith, within.1))

same-bool : (b : Bool) → is_same_bool b b ≡ true
same-bool true = refl
same-bool false = refl

own-rights : (flags : PteFlags) → has_same_rights flags flags ≡ true
own-rights flags =
    and_from _ _ (same-bool (is_user flags.0))
    (and_from _ _ (same-bool (may_read flags.0))
    (and_from _ _ (same-bool (may_write flags.0)) (same-bool (may_execute flags.0))))

pub gives_by_all : AreMoments → (scheme : Scheme) (named : ℕ → Bool) (records : List Record) (w : Warning) → IsDueAt scheme (trace_of records) w
    → Gives scheme (parts_from scheme w every named 1 records) w
gives_by_all range scheme named records w due =
    let parts : List Part = parts_from scheme w every named 1 records in
    let within = since-range range scheme (trace_of records) w due in
    let number : number_at parts w.stale_since ≡ w.stale_since =
    own-number scheme w named records w.stale_since within.0 (omega (arith, within.1, traced-length [] records)) in
    record {
      alone = w;
      due = subst (λ rs. IsDueAt scheme (trace_of rs) w) (sym (all-made scheme w named 1 records)) due;
      verdict = refl;
      frames = refl;
      rights = own-rights w.entry.flags;
      finding = ap (λ n. finding_of (record w { stale_since = n })) number;
    }
