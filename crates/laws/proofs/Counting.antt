-- How many posts of a list count.
use Rattle.std.proofs.Common.{◌≡◌, ℕ, zero, suc, ◌+◌, ◌<◌, ◌≤◌, Bool, true, false, List, [], ◌∷◌, ◌++◌, length, drop, refl, ap, sym, ◌∙◌, arith, ◌⊎◌, inl, inr, zero-add}
use Rattle.std.specs.Prelude.{All}
use Rattle.std.specs.List.{slice_index_or}
use Rattle.std.proofs.lemmas.List.Elements.{All-head, All-tail, All-weaker}
use Rattle.history.specs.Mailboxes.{Sent}
use Rattle.history.specs.Acknowledgements.{count_where}
use Rattle.laws.specs.Posts.{IsOfOther, StandsIn}
use Rattle.laws.proofs.Posts.{Distinct}

-- the order is that of the first, or of a later one
abbrev pub Stands : ℕ → List Sent → Type 0
Stands k [] = ⊥
Stands k (x ∷ xs) = (x.order ≡ k) ⊎ Stands k xs

contained : (xs : List Sent) (x : Sent) (i k : ℕ) → i < length xs → slice_index_or xs i x ≡ x → x.order ≡ k → Stands k xs
contained [] x i k l e q = absurd (omega arith)
contained (y ∷ ys) x zero k l e q = inl (ap (λ (z : Sent). z.order) e ∙ q)
contained (y ∷ ys) x (suc i) k l e q = inr (contained ys x i k (omega arith) e q)

pub stands : (xs : List Sent) (k : ℕ) → StandsIn xs k → Stands k xs
stands xs k i = contained xs i.post i.member.0 k i.member.1 i.member.2 i.is

-- two tests that agree on each element count the same
pub count_agree : (f g : Sent → Bool) (xs : List Sent) → All (λ x. f x ≡ g x) xs → count_where f xs ≡ count_where g xs
count_agree f g [] all = refl
count_agree f g (x ∷ xs) all =
    rw (All-head (λ x. f x ≡ g x) x xs all, count_agree f g xs (All-tail (λ x. f x ≡ g x) x xs all)) refl

pub count_append : (f : Sent → Bool) (xs ys : List Sent) → count_where f (xs ++ ys) ≡ count_where f xs + count_where f ys
count_append f [] ys = sym (zero-add (count_where f ys))
count_append f (x ∷ xs) ys = let r = count_append f xs ys in omega (arith, r)

not_here : (j k : ℕ) (xs : List Sent) → All (IsOfOther j) xs → j ≡ k → Stands k xs → ⊥
not_here j k [] all e s = s
not_here j k (x ∷ xs) all e s =
    elim s [ inl q ↦ All-head (IsOfOther j) x xs all (e ∙ sym q) | inr n ↦ not_here j k xs (All-tail (IsOfOther j) x xs all) e n ]

-- one of the posts no longer counts, and the others as before
pub count_less : (f g : Sent → Bool) (k : ℕ) → ((x : Sent) → x.order ≡ k → (f x ≡ true) × (g x ≡ false)) → (xs : List Sent)
    → All (λ x. IsOfOther k x → f x ≡ g x) xs → Distinct xs → Stands k xs → count_where f xs ≡ suc (count_where g xs)
count_less f g k changed [] all d s = absurd s
count_less f g k changed (x ∷ xs) all d s =
    let Same : Sent → Type 0 = λ y. IsOfOther k y → f y ≡ g y in
    let rest = All-tail Same x xs all in
    elim s [
      | inl e ↦ let c = changed x e in
          let others = All-weaker (IsOfOther x.order) (IsOfOther k) (λ y n q. n (e ∙ q)) xs d.0 in
          let r : count_where f xs ≡ count_where g xs = count_agree f g xs (λ i y within. rest i y within (others i y within)) in
          rw (c.0, c.1) (omega (arith, r))
      | inr n ↦ let apart : IsOfOther k x = λ q. not_here x.order k xs d.0 (sym q) n in
          let r = count_less f g k changed xs rest d.1 n in
          rw (All-head Same x xs all apart) (omega (arith, r))
    ]

-- all of the rest counts
all_count : (f : Sent → Bool) (xs : List Sent) → All (λ x. f x ≡ true) xs → length xs ≤ count_where f xs
all_count f [] all = omega arith
all_count f (x ∷ xs) all = let r = all_count f xs (All-tail (λ x. f x ≡ true) x xs all) in rw (All-head (λ x. f x ≡ true) x xs all) (omega (arith, r))

pub rest_counts : (f : Sent → Bool) (n : ℕ) (xs : List Sent) → All (λ x. f x ≡ true) (drop n xs) → length (drop n xs) ≤ count_where f xs
rest_counts f zero xs all = all_count f xs all
rest_counts f (suc n) [] all = omega arith
rest_counts f (suc n) (x ∷ xs) all = let r = rest_counts f n xs all in omega (arith, r)

-- all of the rest counts, and one more does
pub rest_counts_less : (f : Sent → Bool) (k n : ℕ) (xs : List Sent) → All (λ x. f x ≡ true) (drop n xs) → All (IsOfOther k) (drop n xs)
    → ((x : Sent) → x.order ≡ k → f x ≡ true) → Stands k xs → length (drop n xs) < count_where f xs
rest_counts_less f k n [] all other counts s = absurd s
rest_counts_less f k zero (x ∷ xs) all other counts s = absurd (not_here k k (x ∷ xs) other refl s)
rest_counts_less f k (suc n) (x ∷ xs) all other counts s =
    elim s [
      | inl e ↦ let r = rest_counts f n xs all in rw (counts x e) (omega (arith, r))
      | inr t ↦ let r = rest_counts_less f k n xs all other counts t in omega (arith, r)
    ]
