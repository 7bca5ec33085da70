-- Sets of harts that pass a test: which harts they have, and what putting one in changes.
use Rattle.std.proofs.Common.{◌≡◌, ◌∙◌, sym, ap, refl, ℕ, zero, suc, ◌+◌, ◌<◌, ◌≤◌, Bool, true, false, ◌||◌, List, ◌∷◌, map, set, slice_get, arith, eqb, ltb}
use Rattle.std.proofs.lemmas.Bool.{eq-eqb, ltb-true, ltb-false}
use Rattle.std.proofs.lemmas.Bool.Decides.{nat_tests}
use Rattle.std.specs.List.{range_with_len}
use Rattle.std.specs.Option.{unwrap_or}
use Rattle.shoot.specs.HartSet.{contains, harts_where}
use Rattle.pte.specs.declared.TheConstants.{MAX_HARTS}

-- a test with the equation that it meets
pub by_test : (P : Bool → Type 0) (test : Bool) → (test ≡ true → P true) → (test ≡ false → P false) → P test
by_test P true f g = f refl
by_test P false f g = g refl

eqb_apart : (a b : ℕ) → a < b → eqb b a ≡ false
eqb_apart a b h = grind (arith, nat_tests)

eqb_before : (a b : ℕ) → a < b → eqb a b ≡ false
eqb_before a b h = grind (arith, nat_tests)

map_agree : {A : Type 0} (f g : ℕ → A) (from count : ℕ) → ((n : ℕ) → from ≤ n → n < from + count → f n ≡ g n)
    → map f (range_with_len from count) ≡ map g (range_with_len from count)
map_agree f g from zero h = refl
map_agree f g from (suc count) h =
    let here : f from ≡ g from = h from (omega arith) (omega arith) in
    let rest : map f (range_with_len (from + 1) count) ≡ map g (range_with_len (from + 1) count) = map_agree f g (from + 1) count (λ n above below. h n (omega arith) (omega arith)) in
    cc

set_map : (f : ℕ → Bool) (from count at hart : ℕ) → from + at ≡ hart
    → set (map f (range_with_len from count)) at true ≡ map (λ n. eqb hart n || f n) (range_with_len from count)
set_map f from zero at hart h = refl
set_map f from (suc count) zero hart h =
    let same : hart ≡ from = omega arith in
    let rest = map_agree f (λ n. eqb hart n || f n) (from + 1) count (λ n above below. rw (eqb_before hart n (omega arith)) refl) in
    rw (eq-eqb hart from same) (ap (λ (xs : List Bool). true ∷ xs) rest)
set_map f from (suc count) (suc at) hart h =
    let rest = set_map f (from + 1) count at hart (omega arith) in
    rw (eqb_apart from hart (omega arith)) (ap (λ (xs : List Bool). f from ∷ xs) rest)

get_map : (f : ℕ → Bool) (from count at : ℕ) → at < count → unwrap_or (slice_get (map f (range_with_len from count)) at) false ≡ f (from + at)
get_map f from zero at h = absurd (omega arith)
get_map f from (suc count) zero h = let same : from ≡ from + 0 = omega arith in ap f same
get_map f from (suc count) (suc at) h =
    let same : (from + 1) + at ≡ from + suc at = omega arith in
    get_map f (from + 1) count at (omega arith) ∙ ap f same

pub where_agree : (f g : ℕ → Bool) → ((hart : ℕ) → hart < MAX_HARTS → f hart ≡ g hart) → harts_where f ≡ harts_where g
where_agree f g h = map_agree f g 0 MAX_HARTS (λ n above below. h n (omega arith))

-- a hart put in passes the test from then on
pub where_with : (f : ℕ → Bool) (hart : ℕ) → set (harts_where f) hart true ≡ harts_where (λ n. eqb hart n || f n)
where_with f hart = set_map f 0 MAX_HARTS hart hart (omega arith)

pub contains_where : (f : ℕ → Bool) (hart : ℕ) → hart < MAX_HARTS → contains (harts_where f) hart ≡ f hart
contains_where f hart h = let same : 0 + hart ≡ hart = omega arith in get_map f 0 MAX_HARTS hart h ∙ ap f same

pub get_map_past : (f : ℕ → Bool) (from count at : ℕ) → count ≤ at → unwrap_or (slice_get (map f (range_with_len from count)) at) false ≡ false
get_map_past f from zero at h = refl
get_map_past f from (suc count) zero h = absurd (omega arith)
get_map_past f from (suc count) (suc at) h = get_map_past f (from + 1) count at (omega arith)

-- a hart of such a set passes the test, and its number is one that a hart can have
pub passes : (f : ℕ → Bool) (hart : ℕ) → contains (harts_where f) hart ≡ true → f hart ≡ true
passes f hart e =
    by_test (λ test. f hart ≡ true) (ltb hart MAX_HARTS)
    (λ below. sym (contains_where f hart (ltb-true hart MAX_HARTS below)) ∙ e)
    (λ above. let past : contains (harts_where f) hart ≡ false = get_map_past f 0 MAX_HARTS hart (ltb-false hart MAX_HARTS above) in absurd (cc))
