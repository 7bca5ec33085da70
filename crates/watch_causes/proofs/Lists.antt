-- Numbers and lists.
use Rattle.std.proofs.Common.{◌≡◌, ◌∙◌, ℕ, Bool, true, false, ◌+◌, ◌-◌, ◌<◌, ◌≤◌, ◌^◌, ◌/◌, ◌%◌, List, [], ◌∷◌, ◌++◌, ap, sym, refl, inl, inr, arith, length, take, drop, reverse, map, filter, pow_mono}
use Rattle.std.specs.Prelude.{◌&&◌, ◌||◌, ◌==◌, cond, not, suc, take_while}
use Rattle.std.specs.Int.{bit_at}
use Rattle.std.specs.List.{before_first, list_any, prefix_len, suffix_len}
use Rattle.std.proofs.Math.Nat.{div-eq_of_lt}
use Rattle.std.proofs.Math.Seq.{drop-append_seam}
use Rattle.std.proofs.lemmas.List.{length-append, length-reverse, reverse-append, reverse-reverse, take-append-drop}
use Rattle.std.proofs.lemmas.Bool.{cases_Bool}
use Rattle.std.proofs.lemmas.List.Folds.{length-prefix_len}
use Rattle.std.proofs.lemmas.List.Sorted.{IsPermutation-reverse, list_any-IsPermutation}

-- a number of 64 bits has no bit from 64 on
pub high_bit : (n k : ℕ) → n < 2 ^ 64 → 64 ≤ k → (bit_at n k == 1) ≡ false
high_bit n k small high =
    let more : 2 ^ 64 ≤ 2 ^ k = pow_mono high in
    let none : n / 2 ^ k ≡ 0 = div-eq_of_lt (omega arith) in
    ap (λ q. q % 2 == 1) none

pub any-reverse : {A : Type 0} (test : A → Bool) (xs : List A) → list_any test (reverse xs) ≡ list_any test xs
any-reverse test xs = sym (list_any-IsPermutation test xs (reverse xs) (IsPermutation-reverse xs))

-- ---- the first that pass

one_more : (n : ℕ) → 1 + n ≡ suc n
one_more n = omega arith

pub while-passes : {A : Type 0} (test : A → Bool) (x : A) (xs : List A) → test x ≡ true → take_while test (x ∷ xs) ≡ x ∷ take_while test xs
while-passes test x xs is =
    ap (λ b. take (cond b (1 + prefix_len test xs) 0) (x ∷ xs)) is ∙ ap (λ n. take n (x ∷ xs)) (one_more (prefix_len test xs))

pub while-fails : {A : Type 0} (test : A → Bool) (x : A) (xs : List A) → test x ≡ false → take_while test (x ∷ xs) ≡ []
while-fails test x xs is = ap (λ b. take (cond b (1 + prefix_len test xs) 0) (x ∷ xs)) is

pub before-passes : {A : Type 0} (test : A → Bool) (x : A) (xs : List A) → test x ≡ true → before_first test (x ∷ xs) ≡ []
before-passes test x xs is = while-fails (λ y. not (test y)) x xs (ap not is)

pub before-fails : {A : Type 0} (test : A → Bool) (x : A) (xs : List A) → test x ≡ false → before_first test (x ∷ xs) ≡ x ∷ before_first test xs
before-fails test x xs is = while-passes (λ y. not (test y)) x xs (ap not is)

-- the last elements of a list that pass, from the list in the other order
pub last-reverse : {A : Type 0} (test : A → Bool) (xs : List A)
    → drop (length (reverse xs) - suffix_len test (reverse xs)) (reverse xs) ≡ reverse (take_while test xs)
last-reverse {A} test xs =
    let n : ℕ = prefix_len test xs in
    let first : List A = take n xs in
    let rest : List A = drop n xs in
    let whole : reverse xs ≡ reverse rest ++ reverse first = sym (ap reverse (take-append-drop n xs)) ∙ reverse-append first rest in
    let same : suffix_len test (reverse xs) ≡ n = ap (prefix_len test) (reverse-reverse xs) in
    let long : length first ≡ n = length-prefix_len test xs in
    let all : length first + length rest ≡ length xs = sym (length-append first rest) ∙ ap length (take-append-drop n xs) in
    let start : length (reverse xs) - suffix_len test (reverse xs) ≡ length (reverse rest) = omega (arith, length-reverse xs, length-reverse rest, same, long, all) in
    ap (λ k. drop k (reverse xs)) start ∙ (ap (drop (length (reverse rest))) whole ∙ drop-append_seam (reverse rest) (reverse first))

-- ---- tests of some of the elements

pub any-filter : {A : Type 0} (test only : A → Bool) (xs : List A) → list_any test (filter only xs) ≡ list_any (λ x. only x && test x) xs
any-filter test only [] = refl
any-filter test only (x ∷ xs) =
    elim (only x) as (λ b. list_any test (cond b (x ∷ filter only xs) (filter only xs)) ≡ ((b && test x) || list_any (λ x. only x && test x) xs)) [
      | true ↦ ap (λ r. test x || r) (any-filter test only xs)
      | false ↦ any-filter test only xs
    ]

pub any-alike : {A : Type 0} (test other : A → Bool) → ((x : A) → test x ≡ other x) → (xs : List A) → list_any test xs ≡ list_any other xs
any-alike test other same [] = refl
any-alike test other same (x ∷ xs) = ap (λ b. b || list_any test xs) (same x) ∙ ap (λ b. other x || b) (any-alike test other same xs)

pub any-map : {A B : Type 0} (test : B → Bool) (f : A → B) (xs : List A) → list_any test (map f xs) ≡ list_any (λ x. test (f x)) xs
any-map test f [] = refl
any-map test f (x ∷ xs) = ap (λ b. test (f x) || b) (any-map test f xs)

implied : (a b : Bool) → (b ≡ true → a ≡ true) → (a && b) ≡ b
implied a b h =
    elim (cases_Bool b) [
      | inl is ↦ ap (λ v. v && b) (h is)
      | inr is ↦ ap (λ v. a && v) is ∙ (elim a as (λ v. (v && false) ≡ false) [ true ↦ refl | false ↦ refl ] ∙ sym is)
    ]

-- where the test passes only what the filter does
pub any-filtered : {A : Type 0} (test only : A → Bool) → ((x : A) → test x ≡ true → only x ≡ true) → (xs : List A) → list_any test (filter only xs) ≡ list_any test xs
any-filtered test only narrow xs =
    any-filter test only xs ∙ any-alike (λ x. only x && test x) test (λ x. implied (only x) (test x) (narrow x)) xs
