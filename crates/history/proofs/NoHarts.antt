-- Sets of harts in which there is none.
use Rattle.std.proofs.Common.{◌≡◌, ℕ, zero, suc, ◌+◌, ◌<◌, ◌≤◌, Bool, true, false, not, map, refl, ap, arith, eqb}
use Rattle.std.proofs.lemmas.Bool.{and_parts, and_from, eqb-true, not-true}
use Rattle.std.proofs.lemmas.Bool.Decides.{nat_tests}
use Rattle.std.specs.List.{list_all, range_with_len}
use Rattle.shoot.specs.HartSet.{harts_where, is_empty}
use Rattle.pte.specs.declared.TheConstants.{MAX_HARTS}
use Rattle.shoot.proofs.HartSets.{by_test}

none_in_range : (f : ℕ → Bool) (from n h : ℕ) → list_all (λ member. not member) (map f (range_with_len from n)) ≡ true → from ≤ h → h < from + n → f h ≡ false
none_in_range f from zero h e low high = absurd (omega arith)
none_in_range f from (suc n) h e low high =
    let p = and_parts (not (f from)) (list_all (λ member. not member) (map f (range_with_len (from + 1) n))) e in
    by_test (λ v. f h ≡ false) (eqb from h)
    (λ t. let q : from ≡ h = eqb-true from h t in rw (← q) (not-true (f from) p.0))
    (λ t. none_in_range f (from + 1) n h p.1 (below_more from h low t) (omega arith))
  where
    below_more : (from h : ℕ) → from ≤ h → eqb from h ≡ false → from + 1 ≤ h
    below_more from h low t = grind (arith, nat_tests)

pub none_where : (f : ℕ → Bool) (h : ℕ) → is_empty (harts_where f) ≡ true → h < MAX_HARTS → f h ≡ false
none_where f h e l = none_in_range f 0 MAX_HARTS h e (omega arith) (omega arith)

empty_range : (f : ℕ → Bool) (from n : ℕ) → ((h : ℕ) → from ≤ h → h < from + n → f h ≡ false) → list_all (λ member. not member) (map f (range_with_len from n)) ≡ true
empty_range f from zero none = refl
empty_range f from (suc n) none =
    and_from (not (f from)) (list_all (λ member. not member) (map f (range_with_len (from + 1) n))) (ap not (none from (omega arith) (omega arith)))
    (empty_range f (from + 1) n (λ h low high. none h (omega (arith, low)) (omega (arith, high))))

pub where_none : (f : ℕ → Bool) → ((h : ℕ) → h < MAX_HARTS → f h ≡ false) → is_empty (harts_where f) ≡ true
where_none f none = empty_range f 0 MAX_HARTS (λ h low high. none h (omega (arith, high)))
