-- Which verdicts are of one finding, and that each cause has one tally.
use Rattle.std.proofs.Common.{◌≡◌, ◌∙◌, ℕ, Bool, true, false, List, [], ◌∷◌, ap, sym, subst, inl, inr, refl}
use Rattle.std.specs.Prelude.{◌==◌, ◌↔◌, cond}
use Rattle.std.specs.List.{list_any}
use Rattle.std.proofs.lemmas.Bool.{cases_Bool, false_from_ne_true, or_from, or_parts, true≢false}
use Rattle.pte.specs.Address.{Span, level_of}
use Rattle.pte.specs.declared.address.PageSize.{PageSize}
use Rattle.pte.specs.declared.address.PageSize.TheVariants.{Kib4, Mib2, Gib1, Gib512}
use Rattle.watch_engine.specs.declared.warning.Warning.{Warning}
use Rattle.watch_engine.specs.Held.{own}
use Rattle.watch_causes.specs.declared.finding.Cause.{Cause}
use Rattle.watch_causes.specs.declared.finding.Finding.{Finding}
use Rattle.watch_causes.specs.declared.tally.Tally.{Tally}
use Rattle.watch_causes.specs.Counting.{AreApart, AreOfOneFinding}
use Rattle.watch_causes.specs.Findings.{Judged, begins_finding, cause_with, finding_of, is_same_cause}
use Rattle.watch_causes.specs.Tallies.{is_of, tallied, tallies_of, with_verdict}
use Rattle.watch_causes.proofs.Counted.{same-cause, same-itself}

-- ---- findings

abbrev size_at : ℕ → PageSize
size_at n = cond (n == 0) Kib4 (cond (n == 1) Mib2 (cond (n == 2) Gib1 Gib512))

size-back : (s : PageSize) → size_at (level_of s) ≡ s
size-back Kib4 = refl
size-back Mib2 = refl
size-back Gib1 = refl
size-back Gib512 = refl

same-page : (a b : Span) → a.base ≡ b.base → level_of a.size ≡ level_of b.size → a ≡ b
same-page a b base level =
    let size : a.size ≡ b.size = sym (size-back a.size) ∙ (ap size_at level ∙ size-back b.size) in
    ap (λ n. record a { base = n }) base ∙ ap (λ s. record b { size = s }) size

-- of what is not global, what counts is its own
own-number : (g h : Bool) (m n : ℕ) → g ≡ h → own g m ≡ own h n → g ≡ false → m ≡ n
own-number g h m n same is local =
    sym (ap (λ b. own b m) local) ∙ (is ∙ ap (λ b. own b n) (sym same ∙ local))

own-same : (g h : Bool) (m n : ℕ) → g ≡ h → (g ≡ false → m ≡ n) → own g m ≡ own h n
own-same g h m n same is =
    elim (cases_Bool g) [
      | inl global ↦ ap (λ b. own b m) global ∙ ap (λ b. own b n) (sym (sym same ∙ global))
      | inr local ↦ ap (own g) (is local) ∙ ap (λ b. own b n) same
    ]

of-one : (a b : Warning) → finding_of a ≡ finding_of b → AreOfOneFinding a b
of-one a b is =
    let global : a.entry.global ≡ b.entry.global = ap (λ (f : Finding). f.global) is in
    record {
      since = ap (λ (f : Finding). f.since) is;
      hart = ap (λ (f : Finding). f.hart) is;
      page = same-page a.entry.page b.entry.page (ap (λ (f : Finding). f.base) is) (ap (λ (f : Finding). f.level) is);
      global = global;
      root = own-number a.entry.global b.entry.global a.root b.root global (ap (λ (f : Finding). f.root) is);
      asid = own-number a.entry.global b.entry.global a.entry.asid b.entry.asid global (ap (λ (f : Finding). f.asid) is);
    }

one-of : (a b : Warning) → AreOfOneFinding a b → finding_of a ≡ finding_of b
one-of a b are =
    let x : Finding = finding_of a in
    let y : Finding = finding_of b in
    let asid : x.asid ≡ y.asid = own-same a.entry.global b.entry.global a.entry.asid b.entry.asid are.global are.asid in
    let root : x.root ≡ y.root = own-same a.entry.global b.entry.global a.root b.root are.global are.root in
    ap (λ n. record x { since = n }) are.since
    ∙ (ap (λ n. record x { since = y.since; hart = n }) are.hart
    ∙ (ap (λ (p : Span). record x { since = y.since; hart = y.hart; base = p.base; level = level_of p.size }) are.page
    ∙ (ap (λ g. record y { global = g; asid = x.asid; root = x.root }) are.global
    ∙ (ap (λ n. record y { asid = n; root = x.root }) asid ∙ ap (λ n. record y { root = n }) root))))

pub one_finding : (a b : Warning) → (finding_of a ≡ finding_of b) ↔ AreOfOneFinding a b
one_finding a b = (of-one a b, one-of a b)

-- ---- tallies

module _ (cause : Cause) (begins : Bool) (v : Judged) where
  abbrev next : Tally → Tally
  next = tallied begins v.warning.verdict

  abbrev with : List Tally → List Tally
  with = with_verdict cause begins v

  none-with : (c : Cause) → is_same_cause c cause ≡ false → (ts : List Tally) → list_any (is_of c) ts ≡ false → list_any (is_of c) (with ts) ≡ false
  none-with c apart [] none = or_from _ _ apart refl
  none-with c apart (t ∷ ts) none =
      let parts = or_parts (is_of c t) (list_any (is_of c) ts) none in
      elim (is_of cause t) as (λ b. list_any (is_of c) (cond b (next t ∷ ts) (t ∷ with ts)) ≡ false) [
        | true ↦ none
        | false ↦ or_from _ _ parts.0 (none-with c apart ts parts.1)
      ]

  apart-with : (ts : List Tally) → AreApart ts → AreApart (with ts)
  apart-with [] are = (refl, tt)
  apart-with (t ∷ ts) are =
      elim (cases_Bool (is_of cause t)) [
        | inl is ↦ subst AreApart (sym (ap (λ b. cond b (next t ∷ ts) (t ∷ with ts)) is)) (are.0, are.1)
        | inr other ↦
            let back : is_same_cause t.cause cause ≡ false =
            false_from_ne_true _ (λ same. true≢false (sym (same-itself cause) ∙ (ap (is_same_cause cause) (sym (same-cause t.cause cause same)) ∙ other))) in
            subst AreApart (sym (ap (λ b. cond b (next t ∷ ts) (t ∷ with ts)) other)) (none-with t.cause back ts are.0, apart-with ts are.1)
      ]

pub tallies_apart : (verdicts : List Judged) → AreApart (tallies_of verdicts)
tallies_apart [] = tt
tallies_apart (newest ∷ verdicts) =
    apart-with (cause_with newest verdicts) (begins_finding newest verdicts) newest (tallies_of verdicts) (tallies_apart verdicts)
