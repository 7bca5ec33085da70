-- The entries by age: what a look-up finds in them, and what a drop and a fill make of them.
use Rattle.std.proofs.Common.{◌≡◌, sym, ◌∙◌, ap, refl, ℕ, zero, suc, ◌+◌, ◌<◌, ◌≤◌, Bool, true, false, Option, Some, None, List, [], ◌∷◌, ◌++◌, length, filter, inl, inr, arith}
use Rattle.std.specs.Prelude.{find, slice_get}
use Rattle.std.specs.List.{filter_map, range_with_len, cons_option, AllByRecursion}
use Rattle.std.proofs.lemmas.Bool.{cases_eq}
use Rattle.std.proofs.lemmas.List.Elements.{filter-append, filter_map-append}
use Rattle.tlb.specs.declared.store.Entry.{Entry}

-- ---- what a function gives of the numbers from one on
range-add : (a m n : ℕ) → range_with_len a (m + n) ≡ range_with_len a m ++ range_with_len (a + m) n
range-add a zero n =
    let start : a + 0 ≡ a = omega arith in
    let many : 0 + n ≡ n = omega arith in
    rw (start, many) refl
range-add a (suc m) n =
    let start : a + suc m ≡ a + 1 + m = omega arith in
    let many : suc m + n ≡ suc (m + n) = omega arith in
    rw (start, many) (ap (λ (ks : List ℕ). a ∷ ks) (range-add (a + 1) m n))

pub split : (f : ℕ → Option Entry) (m n : ℕ) → filter_map f (range_with_len 0 (m + n)) ≡ filter_map f (range_with_len 0 m) ++ filter_map f (range_with_len m n)
split f m n =
    let start : 0 + m ≡ m = omega arith in
    ap (filter_map f) (range-add 0 m n) ∙ filter_map-append f (range_with_len 0 m) (range_with_len (0 + m) n) ∙ ap (λ k. filter_map f (range_with_len 0 m) ++ filter_map f (range_with_len k n)) start

-- two functions that give the same, the one d numbers further on
pub same_from : (f g : ℕ → Option Entry) (n a d : ℕ) → ((k : ℕ) → a ≤ k → k < a + n → f k ≡ g (k + d)) → filter_map f (range_with_len a n) ≡ filter_map g (range_with_len (a + d) n)
same_from f g zero a d same = refl
same_from f g (suc n) a d same =
    let next : a + d + 1 ≡ a + 1 + d = omega arith in
    let rest = same_from f g n (a + 1) d (λ k from below. same k (omega arith) (omega arith)) in
    rw (next, same a (omega arith) (omega arith)) (ap (cons_option (g (a + d))) rest)

module _ (f : ℕ → Option Entry) where
  -- of the number of nothing that passes nothing is found
  skipped : (p : Entry → Bool) (o : Option Entry) (es : List Entry) → ((e : Entry) → o ≡ Some e → p e ≡ false) → find p (cons_option o es) ≡ find p es
  skipped p None es fails = refl
  skipped p (Some e) es fails = rw (fails e refl) refl

  -- what is found is of the least number of what passes
  pub least_found : (p : Entry → Bool) (n a k : ℕ) (e : Entry) → a ≤ k → k < a + n → f k ≡ Some e → p e ≡ true → ((j : ℕ) (other : Entry) → a ≤ j → j < k → f j ≡ Some other → p other ≡ false)
      → find p (filter_map f (range_with_len a n)) ≡ Some e
  least_found p zero a k e from below is passes before = absurd (omega arith)
  least_found p (suc n) a k e from below is passes before = elim (cases_eq a k) [
    | inl here ↦ rw (here, is, passes) refl
    | inr later ↦
        skipped p (f a) _ (λ other at. before a other (omega arith) (omega arith) at)
        ∙ least_found p n (a + 1) k e (omega arith) (omega arith) is passes (λ j other more less. before j other (omega arith) less)
  ]

  pub none_found : (p : Entry → Bool) (n a : ℕ) → ((j : ℕ) (other : Entry) → a ≤ j → j < a + n → f j ≡ Some other → p other ≡ false) → find p (filter_map f (range_with_len a n)) ≡ None
  none_found p zero a fails = refl
  none_found p (suc n) a fails =
      skipped p (f a) _ (λ other at. fails a other (omega arith) (omega arith) at)
      ∙ none_found p n (a + 1) (λ j other more less. fails j other (omega arith) (omega arith))

  -- where nothing fails to give an entry, there are as many as numbers
  pub length_of_all : (n a : ℕ) → ((k : ℕ) → a ≤ k → k < a + n → (e : Entry) × (f k ≡ Some e)) → length (filter_map f (range_with_len a n)) ≡ n
  length_of_all zero a gives = refl
  length_of_all (suc n) a gives =
      let rest = length_of_all n (a + 1) (λ k from below. gives k (omega arith) (omega arith)) in
      let here = gives a (omega arith) (omega arith) in
      rw here.1 (omega (arith, rest))

  -- and the number of a place is the first number and the place
  pub nth_given : (n a k : ℕ) → ((j : ℕ) → a ≤ j → j < a + n → (e : Entry) × (f j ≡ Some e)) → k < n → slice_get (filter_map f (range_with_len a n)) k ≡ f (a + k)
  nth_given zero a k gives below = absurd (omega arith)
  nth_given (suc n) a zero gives below =
      let here = gives a (omega arith) (omega arith) in
      let at : a + 0 ≡ a = omega arith in
      rw (at, here.1) refl
  nth_given (suc n) a (suc k) gives below =
      let here = gives a (omega arith) (omega arith) in
      let at : a + suc k ≡ a + 1 + k = omega arith in
      rw (here.1, at) (nth_given n (a + 1) k (λ j from less. gives j (omega arith) (omega arith)) (omega arith))

  pub length_at_most : (n a : ℕ) → length (filter_map f (range_with_len a n)) ≤ n
  length_at_most zero a = omega arith
  length_at_most (suc n) a = one_more (f a) (length_at_most n (a + 1)) where
    one_more : (o : Option Entry) → length (filter_map f (range_with_len (a + 1) n)) ≤ n → length (cons_option o (filter_map f (range_with_len (a + 1) n))) ≤ suc n
    one_more None rest = omega (arith, rest)
    one_more (Some e) rest = omega (arith, rest)

  -- what holds of each that is given
  pub each_given : (P : Entry → Type 0) (n a : ℕ) → ((k : ℕ) (e : Entry) → a ≤ k → k < a + n → f k ≡ Some e → P e) → AllByRecursion P (filter_map f (range_with_len a n))
  each_given P zero a holds = tt
  each_given P (suc n) a holds = one_more (f a) (λ e at. holds a e (omega arith) (omega arith) at) (each_given P n (a + 1) (λ k e from below. holds k e (omega arith) (omega arith))) where
    one_more : (o : Option Entry) → ((e : Entry) → o ≡ Some e → P e) → AllByRecursion P (filter_map f (range_with_len (a + 1) n)) → AllByRecursion P (cons_option o (filter_map f (range_with_len (a + 1) n)))
    one_more None here rest = rest
    one_more (Some e) here rest = (here e refl, rest)

-- without what fails a list passes through a test as with it
pub without_failing : (p : Entry → Bool) (xs ys : List Entry) (e : Entry) → p e ≡ false → filter p (xs ++ e ∷ ys) ≡ filter p (xs ++ ys)
without_failing p xs ys e fails =
    let tail : filter p (e ∷ ys) ≡ filter p ys = rw fails refl in
    filter-append p xs (e ∷ ys) ∙ ap (λ zs. filter p xs ++ zs) tail ∙ sym (filter-append p xs ys)

-- what passes in each element loses none
pub filter_kept : (p : Entry → Bool) (xs : List Entry) → AllByRecursion (λ e. p e ≡ true) xs → filter p xs ≡ xs
filter_kept p [] all = refl
filter_kept p (x ∷ xs) all = rw all.0 (ap (λ (es : List Entry). x ∷ es) (filter_kept p xs all.1))
