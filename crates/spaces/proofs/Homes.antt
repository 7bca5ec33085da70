-- Each frame is at home on one hart.
use Rattle.std.proofs.Common.{◌≡◌, ℕ, zero, suc, ◌+◌, ◌<◌, ◌≤◌, true, Some, refl, List, [], ◌∷◌, length, sum, take, ap, sym, ◌∙◌, inl, inr, arith}
use Rattle.std.specs.Prelude.{slice_index, nat_le, nat_lt}
use Rattle.std.proofs.lemmas.Bool.{and_parts, cases_order}
use Rattle.std.proofs.lemmas.List.Sums.{sum_by-cons}
use borrow.Author.Tests.{ltb-true, leb-true}
use Rattle.spaces.specs.Layout.{Layout, HasPlace, is_root, root_ppn, window_ppn, spare_ppn}
use Rattle.spaces.specs.Tree.{IsAtHome, of_root, of_window, of_spare, IsSpareFor, IsTableOf, IsOwn}
use Rattle.spaces.specs.Holders.{Holders}
use Rattle.spaces.specs.declared.places.Place.{Place}
use Rattle.spaces.specs.declared.places.Place.TheVariants.{Space, Kernel}

-- one part of a sum stands before the next
pub sum-take-step : (xs : List ℕ) (h k : ℕ) → h < k → sum (take h xs) + slice_index xs h ≤ sum (take k xs)
sum-take-step [] h zero less = absurd (omega arith)
sum-take-step [] zero (suc k) less = omega arith
sum-take-step [] (suc h) (suc k) less = omega arith
sum-take-step (x ∷ xs) h zero less = absurd (omega arith)
sum-take-step (x ∷ xs) zero (suc k) less = let step : sum (x ∷ take k xs) ≡ x + sum (take k xs) = sum_by-cons (λ n. n) x (take k xs) in omega arith
sum-take-step (x ∷ xs) (suc h) (suc k) less =
    let step : sum (x ∷ take k xs) ≡ x + sum (take k xs) = sum_by-cons (λ n. n) x (take k xs) in
    let from : sum (x ∷ take h xs) ≡ x + sum (take h xs) = sum_by-cons (λ n. n) x (take h xs) in
    let rest = sum-take-step xs h k (omega arith) in
    omega arith

pub sum-within : (xs : List ℕ) (h : ℕ) → sum (take h xs) + slice_index xs h ≤ sum xs
sum-within [] zero = omega arith
sum-within [] (suc h) = omega arith
sum-within (x ∷ xs) zero = let step : sum (x ∷ xs) ≡ x + sum xs = sum_by-cons (λ n. n) x xs in omega arith
sum-within (x ∷ xs) (suc h) =
    let step : sum (x ∷ xs) ≡ x + sum xs = sum_by-cons (λ n. n) x xs in
    let front : sum (x ∷ take h xs) ≡ x + sum (take h xs) = sum_by-cons (λ n. n) x (take h xs) in
    let rest = sum-within xs h in
    omega arith

pub ruleset sums = (sum-within)

module _ (l : Layout) where
  pub root-range : (f : ℕ) → is_root l f ≡ true → (root_ppn l 0 ≤ f) × (f < root_ppn l (length l.homes))
  root-range f h =
      let parts = and_parts (nat_le (root_ppn l 0) f) (nat_lt f (root_ppn l (length l.homes))) h in
      (leb-true (root_ppn l 0) f parts.0, ltb-true f (root_ppn l (length l.homes)) parts.1)

  spares-apart : (h h' n n' : ℕ) → h < h' → n < slice_index l.spares h → spare_ppn l h + n ≡ spare_ppn l h' + n' → ⊥
  spares-apart h h' n n' less below e = let step = sum-take-step l.spares h h' less in omega arith

  pub home-unique : (h h' f : ℕ) → IsAtHome l h f → IsAtHome l h' f → h ≡ h'
  home-unique h h' f (of_root s there at is) (of_root s' there' at' is') = let same : s ≡ s' = omega arith in sym at ∙ ap (slice_index l.homes) same ∙ at'
  home-unique h h' f (of_root s there at is) (of_window k there' at' is') = absurd (omega arith)
  home-unique h h' f (of_root s there at is) (of_spare n there' is') = absurd (omega arith)
  home-unique h h' f (of_window k there at is) (of_root s' there' at' is') = absurd (omega arith)
  home-unique h h' f (of_window k there at is) (of_window k' there' at' is') = at ∙ sym at'
  home-unique h h' f (of_window k there at is) (of_spare n there' is') = absurd (omega arith)
  home-unique h h' f (of_spare n there is) (of_root s' there' at' is') = absurd (omega arith)
  home-unique h h' f (of_spare n there is) (of_window k there' at' is') = absurd (omega arith)
  home-unique h h' f (of_spare n there is) (of_spare n' there' is') =
      elim (cases_order h h') [
        | inl same ↦ same
        | inr apart ↦ elim apart [
          | inl less ↦ absurd (spares-apart h h' n n' less there (sym is ∙ is'))
          | inr more ↦ absurd (spares-apart h' h n' n more there' (sym is' ∙ is))
        ]
      ]

  -- a spare frame is no root
  pub spare-own : (h n i : ℕ) → IsOwn l (spare_ppn l h + n) i
  spare-own h n i root = let range = root-range (spare_ppn l h + n) root in absurd (omega arith)

  pub window-own : (k i : ℕ) → k < l.window → IsOwn l (window_ppn l k) i
  window-own k i below root = let range = root-range (window_ppn l k) root in absurd (omega arith)

  pub spare-home : (h : ℕ) (holders : Holders) (place : Place) (f : ℕ) → IsSpareFor l h holders place f → IsAtHome l h f
  spare-home h holders place f u = of_spare u.number u.below u.is

  -- a table is one of one place
  pub place-unique : (h : ℕ) (holders : Holders) (place place' : Place) (f : ℕ) → IsTableOf l h holders place f → IsTableOf l h holders place' f
      → HasPlace l place → HasPlace l place' → place ≡ place'
  place-unique h holders (Space s) (Space s') f (inl a) (inl b) has has' = ap Space (let same : s ≡ s' = omega arith in same)
  place-unique h holders (Space s) Kernel f (inl a) (inl b) has has' = absurd (omega (arith, a, b.1, b.2))
  place-unique h holders Kernel (Space s') f (inl a) (inl b) has has' = absurd (omega (arith, b, a.1, a.2))
  place-unique h holders Kernel Kernel f (inl a) (inl b) has has' = refl
  place-unique h holders (Space s) place' f (inl a) (inr b) has has' = absurd (omega (arith, a, b.is))
  place-unique h holders Kernel place' f (inl a) (inr b) has has' = absurd (omega (arith, a.1, a.2, b.is))
  place-unique h holders place (Space s) f (inr a) (inl b) has has' = absurd (omega (arith, b, a.is))
  place-unique h holders place Kernel f (inr a) (inl b) has has' = absurd (omega (arith, b.1, b.2, a.is))
  place-unique h holders place place' f (inr a) (inr b) has has' = let same : Some place ≡ Some place' = sym a.held ∙ b.held in cc
