-- Verdicts that are put in order.
use Rattle.std.proofs.Common.{◌≡◌, ◌⊎◌, inl, inr, ℕ, ◌<◌, Bool, List, length, get_or, refl, sym, ap, subst, ◌∙◌, arith}
use Rattle.std.specs.List.{AllPairs, filter as kept_by, swap}
use Rattle.std.specs.List.Sorted.{IsPermutation}
use Rattle.std.specs.Cmp.Lexicographic.{nat_list_cmp_total, slice_cmp}
use Rattle.std.specs.Ordering.{is_lt, nat_cmp}
use Rattle.std.proofs.lemmas.List.Sorted.{Contains-permutation, IsPermutation-keeps, IsPermutation-sym, ranks_by}
use Rattle.std.proofs.lemmas.List.Edits.{Swapped, length-swap, swapped_from_swap}
use Rattle.std.proofs.lemmas.List.Kept.{IsSortedBy-filter}
use Rattle.std.proofs.lemmas.Bool.{cases_eq}
use Rattle.pte.specs.declared.scheme.Scheme.{Scheme}
use Rattle.watch.specs.declared.trace.Record.{Record}
use Rattle.watch.specs.Trace.{Trace}
use Rattle.watch_engine.specs.declared.warning.Warning.{Warning}
use Rattle.watch_engine.specs.Warnings.{AreApart, AreWarnings}
use Rattle.watch_report.specs.Orders.{IsInOrder, order_key}

-- ---- what holds of each pair of a list holds of each pair of it in another order

module _ {X : Type 0} (R : X → X → Type 0) (flips : (x y : X) → R x y → R y x) where
  -- of two places, in either order
  of_two : (xs : List X) → AllPairs R xs → (i j : ℕ) (d : X) → (i ≡ j → ⊥) → i < length xs → j < length xs → R (get_or xs i d) (get_or xs j d)
  of_two xs all i j d apart p q = by (cases_lt i j)
    where
      cases_lt : (m n : ℕ) → (m < n) ⊎ (n < m) ⊎ (m ≡ n)
      cases_lt m n = grind arith

      by : (i < j) ⊎ (j < i) ⊎ (i ≡ j) → R (get_or xs i d) (get_or xs j d)
      by (inl less) = all i j d less q
      by (inr (inl more)) = flips _ _ (all j i d more p)
      by (inr (inr same)) = absurd (apart same)

  module _ (xs ys : List X) (a b : ℕ) (d : X) (p : a < length xs) (q : b < length xs) (long : length ys ≡ length xs) (swapped : Swapped (λ i. get_or xs i d) (λ i. get_or ys i d) a b) (all : AllPairs R xs) where
    -- the element at the first place stood at the second
    abbrev Stood : ℕ → ℕ → Type 0
    Stood m n = ((m ≡ a) × (n ≡ b)) ⊎ ((m ≡ b) × (n ≡ a)) ⊎ ((m ≡ a → ⊥) × (m ≡ b → ⊥) × (n ≡ m))

    place : (m : ℕ) → m < length xs → (n : ℕ) × (n < length xs) × (get_or ys m d ≡ get_or xs n d) × Stood m n
    place m less = by (cases_eq m a) (cases_eq m b)
      where
        by : (m ≡ a) ⊎ (m ≡ a → ⊥) → (m ≡ b) ⊎ (m ≡ b → ⊥)
            → (n : ℕ) × (n < length xs) × (get_or ys m d ≡ get_or xs n d) × Stood m n
        by (inl e) other = (b, q, ap (λ n. get_or ys n d) e ∙ swapped.0, inl (e, refl))
        by (inr not) (inl e) = (a, p, ap (λ n. get_or ys n d) e ∙ swapped.1, inr (inl (e, refl)))
        by (inr not) (inr nor) = (m, less, swapped.2 m not nor, inr (inr (not, nor, refl)))

    pub pairs_swapped : (i j : ℕ) → i < j → j < length ys → R (get_or ys i d) (get_or ys j d)
    pairs_swapped i j less within =
        let one = place i (omega (arith, less, within, long)) in
        let two = place j (omega (arith, within, long)) in
        subst (λ (x : X). R x (get_or ys j d)) (sym one.2) (subst (λ (y : X). R (get_or xs one.0 d) y) (sym two.2)
        (of_two xs all one.0 two.0 d (apart one two) one.1 two.1))
      where
        differ : (m n : ℕ) → Stood i m → Stood j n → m ≡ n → ⊥
        differ m n (inl (e, f)) (inl (g, h)) same = omega (arith, less, e, g)
        differ m n (inl (e, f)) (inr (inl (g, h))) same = omega (arith, less, e, f, g, h, same)
        differ m n (inl (e, f)) (inr (inr (not, nor, h))) same = nor (sym h ∙ sym same ∙ f)
        differ m n (inr (inl (e, f))) (inl (g, h)) same = omega (arith, less, e, f, g, h, same)
        differ m n (inr (inl (e, f))) (inr (inl (g, h))) same = omega (arith, less, e, g)
        differ m n (inr (inl (e, f))) (inr (inr (not, nor, h))) same = not (sym h ∙ sym same ∙ f)
        differ m n (inr (inr (not, nor, f))) (inl (g, h)) same = nor (sym f ∙ same ∙ h)
        differ m n (inr (inr (not, nor, f))) (inr (inl (g, h))) same = not (sym f ∙ same ∙ h)
        differ m n (inr (inr (not, nor, f))) (inr (inr (g, h, k))) same = omega (arith, less, f, k, same)

        apart : (one : (n : ℕ) × (n < length xs) × (get_or ys i d ≡ get_or xs n d) × Stood i n) (two : (n : ℕ) × (n < length xs) × (get_or ys j d ≡ get_or xs n d) × Stood j n) → one.0 ≡ two.0 → ⊥
        apart one two = differ one.0 two.0 one.3 two.3

  pub pairs_in_order : (xs ys : List X) → IsPermutation xs ys → AllPairs R xs → AllPairs R ys
  pairs_in_order xs ys shuffled all =
      IsPermutation-keeps xs (AllPairs R) all (λ l a b p q before i j d less within.
      pairs_swapped l (swap l a b) a b d p q (length-swap l a b) (swapped_from_swap l (swap l a b) a b d p q refl) before i j less within) ys shuffled

-- ---- warnings

apart_flips : (v w : Warning) → AreApart v w → AreApart w v
apart_flips v w apart = λ kind hart x shows also. apart (sym kind) (sym hart) x also shows

pub warnings_in_order : (scheme : Scheme) (newest : Record) (trace : Trace) (given ordered : List Warning) → IsPermutation given ordered → AreWarnings scheme newest trace given → AreWarnings scheme newest trace ordered
warnings_in_order scheme newest trace given ordered shuffled are =
    record {
      each = λ w among. are.each w (Contains-permutation ordered given w (IsPermutation-sym given ordered shuffled) among);
      all = λ verdict hart x due.
          let w = are.all verdict hart x due in
          (w.0, Contains-permutation given ordered w.0 shuffled w.1, w.2, w.3, w.4);
      once = pairs_in_order AreApart apart_flips given ordered shuffled are.once;
    }

pub kept_in_order : (p : Warning → Bool) (warnings : List Warning) → IsInOrder warnings → IsInOrder (kept_by p warnings)
kept_in_order p warnings = IsSortedBy-filter (λ v w. is_lt (slice_cmp nat_cmp (order_key v) (order_key w))) (ranks_by nat_list_cmp_total order_key) p warnings

pub one_in_order : (warnings : List Warning) → length warnings < 2 → IsInOrder warnings
one_in_order warnings few = λ k d from within. absurd (omega (arith, few, within))
