-- Sums and lists.
use Rattle.std.proofs.Common.{◌≡◌, ℕ, zero, suc, ◌+◌, ◌*◌, ◌<◌, ◌≤◌, List, [], ◌∷◌, ◌++◌, Some, length, get_or, set, sum, Fits, w16, refl, ap, arith}
use Rattle.std.specs.Prelude.{slice_get}
use Rattle.std.proofs.lemmas.List.Sums.{sum_by-cons}

-- a sum of numbers of 16 bits
pub sum-bound : (xs : List ℕ) → ((i : ℕ) → Fits w16 (get_or xs i 0)) → sum xs ≤ 65536 * length xs
sum-bound [] h = omega arith
sum-bound (x ∷ xs) h = let first : Fits w16 x = h 0 in let step : sum (x ∷ xs) ≡ x + sum xs = sum_by-cons (λ n. n) x xs in let rest = sum-bound xs (λ i. h (suc i)) in omega arith

-- what stands in a list that was added to
pub slice_get-front : {A : Type 0} (xs ys : List A) (k : ℕ) → k < length xs → slice_get (xs ++ ys) k ≡ slice_get xs k
slice_get-front [] ys k h = absurd (omega arith)
slice_get-front (x ∷ xs) ys zero h = refl
slice_get-front (x ∷ xs) ys (suc k) h = slice_get-front xs ys k (omega arith)

pub slice_get-last : {A : Type 0} (xs : List A) (y : A) (k : ℕ) → k ≡ length xs → slice_get (xs ++ y ∷ []) k ≡ Some y
slice_get-last [] y zero h = refl
slice_get-last [] y (suc k) h = absurd (omega arith)
slice_get-last (x ∷ xs) y zero h = absurd (omega arith)
slice_get-last (x ∷ xs) y (suc k) h = slice_get-last xs y k (omega arith)

pub slice_get-set_same : {A : Type 0} (xs : List A) (k : ℕ) (x : A) → k < length xs → slice_get (set xs k x) k ≡ Some x
slice_get-set_same [] k x h = absurd (omega arith)
slice_get-set_same (y ∷ xs) zero x h = refl
slice_get-set_same (y ∷ xs) (suc k) x h = slice_get-set_same xs k x (omega arith)

pub slice_get-set_other : {A : Type 0} (xs : List A) (k j : ℕ) (x : A) → (k ≡ j → ⊥) → slice_get (set xs k x) j ≡ slice_get xs j
slice_get-set_other [] k j x apart = refl
slice_get-set_other (y ∷ xs) zero zero x apart = absurd (apart refl)
slice_get-set_other (y ∷ xs) zero (suc j) x apart = refl
slice_get-set_other (y ∷ xs) (suc k) zero x apart = refl
slice_get-set_other (y ∷ xs) (suc k) (suc j) x apart = slice_get-set_other xs k j x (λ e. apart (ap suc e))
