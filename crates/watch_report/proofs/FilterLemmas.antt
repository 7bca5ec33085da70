-- What a filter takes.
use Rattle.std.proofs.Common.{◌≡◌, ℕ, ◌<◌, zero, suc, Bool, true, false, ◌&&◌, List, [], ◌∷◌, length, cond, Option, Some, None, refl, ap, ap₂, subst, ◌∙◌, arith}
use Rattle.std.specs.Prelude.{◌==◌}
use Rattle.std.specs.List.{Contains, filter as kept_by}
use Rattle.std.specs.Option.{is_none}
use Rattle.std.proofs.lemmas.Bool.{false≢true}
use Rattle.std.proofs.lemmas.List.Elements.{All-contains, All-contains_itself, All-filter, filter_passes}
use Rattle.pte.specs.Address.{Span, holds}
use Rattle.watch.specs.declared.trace.Verdict.{Verdict}
use Rattle.watch.specs.Holding.{Translation}
use Rattle.watch_engine.specs.declared.warning.Warning.{Warning}
use Rattle.watch_engine.specs.Warnings.{Shows, shown_of}
use Rattle.watch_report.specs.declared.filter.Filter.{Filter}
use Rattle.watch_report.specs.declared.filter.Kind.{Kind}
use Rattle.watch_report.specs.Filters.{has_kind, is_open, no_filter, passes, taken, takes, takes_of}

-- ---- no test

open_takes : (hart address : Option ℕ) (kind : Option Kind) (w : Warning) → (is_none hart && (is_none address && is_none kind)) ≡ true
    → (passes (λ h. w.hart == h) hart && (passes (holds w.entry.page) address && passes (has_kind w.verdict w.entry.global) kind)) ≡ true
open_takes None None None w none = refl
open_takes None None (Some k) w none = absurd (false≢true none)
open_takes None (Some a) kind w none = absurd (false≢true none)
open_takes (Some h) address kind w none = absurd (false≢true none)

with_head : (b : Bool) (w : Warning) (kept warnings : List Warning) → b ≡ true → kept ≡ warnings → cond b (w ∷ kept) kept ≡ w ∷ warnings
with_head true w kept warnings t e = ap (λ (ws : List Warning). w ∷ ws) e
with_head false w kept warnings t e = absurd (false≢true t)

pub all_kept : (filter : Filter) (warnings : List Warning) → is_open filter ≡ true → kept_by (takes filter) warnings ≡ warnings
all_kept filter [] none = refl
all_kept filter (w ∷ warnings) none =
    with_head (takes filter w) w (kept_by (takes filter) warnings) warnings (open_takes filter.hart filter.address filter.kind w none) (all_kept filter warnings none)

pub none_kept : (p : Warning → Bool) (warnings : List Warning) → length warnings ≡ 0 → warnings ≡ kept_by p warnings
none_kept p [] none = refl
none_kept p (w ∷ warnings) none = absurd (omega (arith, none))

pub all_taken : (given : List (List Warning)) → taken no_filter given ≡ given
all_taken [] = refl
all_taken (warnings ∷ given) = ap₂ (λ (w : List Warning) (g : List (List Warning)). w ∷ g) (all_kept no_filter warnings refl) (all_taken given)

-- ---- what is kept is what was there and passes

pub from_kept : (p : Warning → Bool) (warnings : List Warning) (w : Warning) → Contains (kept_by p warnings) w → Contains warnings w × (p w ≡ true)
from_kept p warnings w among = (
  All-contains (Contains warnings) (kept_by p warnings) w (All-filter p (Contains warnings) warnings (All-contains_itself warnings)) among,
  All-contains (λ v. p v ≡ true) (kept_by p warnings) w (filter_passes p warnings) among,
)

kept_first : (b : Bool) (w : Warning) (kept : List Warning) → b ≡ true → Contains (cond b (w ∷ kept) kept) w
kept_first true w kept t = (0, omega arith, refl)
kept_first false w kept t = absurd (false≢true t)

kept_more : (b : Bool) (v w : Warning) (kept : List Warning) → Contains kept w → Contains (cond b (v ∷ kept) kept) w
kept_more true v w kept (k, less, is) = (suc k, omega (arith, less), is)
kept_more false v w kept among = among

pub to_kept : (p : Warning → Bool) (warnings : List Warning) (w : Warning) → Contains warnings w → p w ≡ true → Contains (kept_by p warnings) w
to_kept p [] w (k, less, is) t = absurd (omega (arith, less))
to_kept p (v ∷ warnings) w (zero, less, is) t =
    subst (λ (u : Warning). Contains (kept_by p (v ∷ warnings)) u) is (kept_first (p v) v (kept_by p warnings) (ap p is ∙ t))
to_kept p (v ∷ warnings) w (suc k, less, is) t =
    kept_more (p v) v w (kept_by p warnings) (to_kept p warnings w (k, omega (arith, less), is) t)

pub first_of : (kept : List Warning) → 0 < length kept → (w : Warning) × Contains kept w
first_of [] some = absurd (omega (arith, some))
first_of (w ∷ kept) some = (w, (0, some, refl))

-- ---- a warning is taken if what it shows is

abbrev by_parts : Filter → Verdict → ℕ → Span → Bool → Bool
by_parts filter verdict hart page global =
    passes (λ h. hart == h) filter.hart && (passes (holds page) filter.address && passes (has_kind verdict global) filter.kind)

pub same_taken : (filter : Filter) (w : Warning) (verdict : Verdict) (hart : ℕ) (x : Translation) → w.verdict ≡ verdict → w.hart ≡ hart → Shows (shown_of w) x
    → takes filter w ≡ takes_of filter verdict hart x.entry
same_taken filter w verdict hart x v h shows =
    ap (λ (v : Verdict). by_parts filter v w.hart w.entry.page w.entry.global) v
    ∙ ap (λ (h : ℕ). by_parts filter verdict h w.entry.page w.entry.global) h
    ∙ ap (λ (p : Span). by_parts filter verdict hart p w.entry.global) shows.page
    ∙ ap (λ (g : Bool). by_parts filter verdict hart x.entry.page g) shows.global
