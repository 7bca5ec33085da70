-- Tests, options and lists.
use Rattle.std.proofs.Common.{◌≡◌, ℕ, zero, suc, ◌<◌, Bool, true, false, ◌&&◌, ◌||◌, List, [], ◌∷◌, drop, Option, Some, None, slice_get, refl, ap, subst, ◌⊎◌, inl, inr, ltb}
use Rattle.std.specs.Prelude.{All, is_some}
use Rattle.std.proofs.lemmas.Bool.{or_cases, false≢true, ltb-true, ltb-false}
use Rattle.std.proofs.lemmas.Option.{slice_get_past}
use Rattle.std.proofs.lemmas.List.Elements.{All-head, All-tail}
use Rattle.shoot.specs.HartSet.{contains, harts_where}
use Rattle.pte.specs.declared.TheConstants.{MAX_HARTS}
pub use Rattle.shoot.proofs.HartSets.{by_test}
pub use Rattle.history.proofs.Occurred.{and3, none_by}
pub use Rattle.history.proofs.NoHarts.{none_where}

pub or3 : (a b c old : Bool) → ((a && (b && c)) || old) ≡ true → ((a ≡ true) × (b ≡ true) × (c ≡ true)) ⊎ (old ≡ true)
or3 a b c old e = elim (or_cases (a && (b && c)) old e) [ inl n ↦ inl (and3 a b c n) | inr y ↦ inr y ]

pub none_since : {A : Type 0} (o : Option A) → is_some o ≡ false → o ≡ None
none_since None e = refl
none_since (Some x) e = absurd cc

-- lists
pub All-slice_get : {A : Type 0} (P : A → Type 0) (xs : List A) (i : ℕ) (x : A) → All P xs → slice_get xs i ≡ Some x → P x
All-slice_get P [] i x h e = absurd cc
All-slice_get P (y ∷ ys) zero x h e = let s : y ≡ x = cc in subst P s (All-head P y ys h)
All-slice_get P (y ∷ ys) (suc i) x h e = All-slice_get P ys i x (All-tail P y ys h) e

pub drop_slice_get : {A : Type 0} (n : ℕ) (xs : List A) (x : A) → slice_get xs n ≡ Some x → drop n xs ≡ x ∷ drop (suc n) xs
drop_slice_get n [] x e = absurd cc
drop_slice_get zero (y ∷ ys) x e = let q : y ≡ x = cc in ap (λ z. z ∷ ys) q
drop_slice_get (suc n) (y ∷ ys) x e = drop_slice_get n ys x e

-- only harts that can be there are in a set
pub contains_below : (f : ℕ → Bool) (h : ℕ) → contains (harts_where f) h ≡ true → h < MAX_HARTS
contains_below f h e =
    by_test (λ v. h < MAX_HARTS) (ltb h MAX_HARTS) (λ t. ltb-true h MAX_HARTS t)
    (λ t. let past = slice_get_past (harts_where f) h (ltb-false h MAX_HARTS t) in
    let none : false ≡ true = rw past at e in absurd (false≢true none))
