-- A hart that does not come back by any move does not come back.
use Rattle.std.proofs.Common.{add-one, ◌≡◌, ◌∙◌, ◌+◌, ◌<◌, ◌≤◌, ℕ, Bool, true, false, List, [], ◌∷◌, ◌++◌, Option, Some, None, ap, arith, cond, drop, get_or, length, refl, suc, sym, take, zero, inl, inr}
use Rattle.std.specs.Prelude.{◌==◌, ◌&&◌, ◌||◌, Err, Ok, OnOk, Result, nat_le, slice_get}
use Rattle.std.specs.List.{list_any}
use Rattle.std.specs.Option.{option_or, unwrap_or}
use Rattle.std.specs.Ordering.{is_eq}
use Rattle.std.proofs.lemmas.Bool.{cases_Bool, or_parts}
use Rattle.std.proofs.lemmas.Bool.Decides.{nat_tests}
use Rattle.std.proofs.lemmas.List.{take_more}
use Rattle.std.proofs.Math.Seq.{length-take-le}
use Rattle.std.proofs.lemmas.List.Folds.{list_any-append}
use Rattle.pte.specs.declared.scheme.Scheme.{Scheme}
use Rattle.watch_engine.specs.declared.warning.Warning.{Warning}
use Rattle.watch.specs.Computed.{is_same}
use Rattle.watch_engine.specs.Held.{own}
use Rattle.watch_causes.specs.declared.log.Numbered.{Numbered}
use Rattle.watch_causes.specs.declared.moves.Move.{Move}
use Rattle.watch_causes.specs.declared.moves.Move.TheVariants.{Fences, Writes}
use Rattle.watch_causes.specs.declared.returns.Visit.{Visit}
use Rattle.watch_causes.specs.Decisions.{by_fence, comes_from, decided, takes_it}
use Rattle.watch_causes.proofs.Knowing.{is-same, of-bools, then-of}
use Rattle.watch_causes.specs.Returns.{any_visit, last_return, returns_to, visit_cmp, visit_of, visit_under}

-- ---- the moves behind those many

still-none : {A : Type 0} (test : A → Bool) (n : ℕ) (xs : List A) → list_any test xs ≡ false → list_any test (drop n xs) ≡ false
still-none test zero xs none = none
still-none test (suc n) [] none = refl
still-none test (suc n) (x ∷ xs) none = still-none test n xs (or_parts (test x) (list_any test xs) none).1

pub none-behind-more : {A : Type 0} (test : A → Bool) (m n : ℕ) (xs : List A) → m ≤ n → list_any test (drop m xs) ≡ false → list_any test (drop n xs) ≡ false
none-behind-more test zero n xs more none = still-none test n xs none
none-behind-more test (suc m) zero xs more none = absurd (omega (arith, more))
none-behind-more test (suc m) (suc n) [] more none = refl
none-behind-more test (suc m) (suc n) (x ∷ xs) more none = none-behind-more test m n xs (omega (arith, more)) none

module _ (scheme : Scheme) (w : Warning) (fences : List Numbered) where
  fence-none : (o : Option Numbered) (rest : Option Bool) → unwrap_or rest false ≡ false → unwrap_or (option_or (by_fence scheme w o) rest) false ≡ false
  fence-none None rest is = is
  fence-none (Some n) rest is = elim (takes_it scheme w n) as (λ b. unwrap_or (option_or (cond b (Some false) None) rest) false ≡ false) [ true ↦ refl | false ↦ is ]

  pub never-back : (moves : List Move) → list_any (returns_to w) moves ≡ false → unwrap_or (decided scheme fences w moves) false ≡ false
  never-back [] none = refl
  never-back (Writes hart asid ∷ moves) none =
      let parts = or_parts (returns_to w (Writes hart asid)) (list_any (returns_to w) moves) none in
      ap (λ b. unwrap_or (option_or (cond b (Some true) None) (decided scheme fences w moves)) false) parts.0 ∙ never-back moves parts.1
  never-back (Fences at ∷ moves) none = fence-none (slice_get fences at) (decided scheme fences w moves) (never-back moves none)

at-most : (m n : ℕ) → nat_le m n ≡ true → m ≤ n
at-most m n is = grind (arith, nat_tests)

none-behind-last : (w : Warning) (moves : List Move) → list_any (returns_to w) (drop (last_return w moves) moves) ≡ false
none-behind-last w [] = refl
none-behind-last w (m ∷ moves) =
    elim (cases_Bool (list_any (returns_to w) moves)) [
      | inl later ↦
          ap (λ n. list_any (returns_to w) (drop n (m ∷ moves))) (ap (λ b. cond b (last_return w moves + 1) (cond (returns_to w m) 1 0)) later ∙ add-one (last_return w moves))
          ∙ none-behind-last w moves
      | inr none ↦ elim (cases_Bool (returns_to w m)) [
        | inl now ↦
            ap (λ n. list_any (returns_to w) (drop n (m ∷ moves))) (ap (λ b. cond b (last_return w moves + 1) (cond (returns_to w m) 1 0)) none ∙ ap (λ b. cond b 1 0) now)
            ∙ none
        | inr never ↦
            ap (λ n. list_any (returns_to w) (drop n (m ∷ moves))) (ap (λ b. cond b (last_return w moves + 1) (cond (returns_to w m) 1 0)) none ∙ ap (λ b. cond b 1 0) never)
            ∙ (ap (λ b. b || list_any (returns_to w) moves) never ∙ none)
      ]
    ]

pub gone-away : (scheme : Scheme) (w : Warning) (fences : List Numbered) (moves : List Move) (last start : ℕ) (gone : Bool) → gone ≡ nat_le last start → gone ≡ true
    → last ≡ last_return w moves → comes_from scheme fences moves w (Some start) ≡ false
gone-away scheme w fences moves last start gone is yes-gone same =
    never-back scheme w fences (drop start moves)
    (none-behind-more (returns_to w) (last_return w moves) start moves (at-most (last_return w moves) start (ap (λ n. nat_le n start) (sym same) ∙ (sym is ∙ yes-gone))) (none-behind-last w moves))

-- ---- the keys of the table

same-visit : (a b : Visit) → is_eq (visit_cmp a b) ≡ ((a.hart == b.hart) && (is_same a.global b.global && (a.asid == b.asid)))
same-visit a b = then-of _ _ _ _ (is-same a.hart b.hart) (then-of _ _ _ _ (of-bools a.global b.global) (is-same a.asid b.asid))

and-false : (b : Bool) → (b && false) ≡ false
and-false true = refl
and-false false = refl

picked : (g : Bool) (of hart asid other count : ℕ) (o : Option ℕ)
    → unwrap_or (cond ((of == hart) && (is_same true g && (0 == own g asid))) (Some count) (cond ((of == hart) && (is_same false g && (other == own g asid))) (Some count) o)) 0
    ≡ cond ((of == hart) && (g || (other == asid))) count (unwrap_or o 0)
picked true of hart asid other count o =
    elim (of == hart) as (λ b. unwrap_or (cond (b && true) (Some count) (cond (b && false) (Some count) o)) 0 ≡ cond (b && true) count (unwrap_or o 0)) [ true ↦ refl | false ↦ refl ]
picked false of hart asid other count o =
    elim (of == hart) as (λ b. unwrap_or (cond (b && false) (Some count) (cond (b && (other == asid)) (Some count) o)) 0 ≡ cond (b && (other == asid)) count (unwrap_or o 0)) [
      | true ↦ elim (other == asid) as (λ b. unwrap_or (cond b (Some count) o) 0 ≡ cond b count (unwrap_or o 0)) [ true ↦ refl | false ↦ refl ]
      | false ↦ refl
    ]

pub visited : (w : Warning) (hart asid count : ℕ) (o : Option ℕ)
    → unwrap_or (cond (is_eq (visit_cmp (any_visit hart) (visit_of w))) (Some count) (cond (is_eq (visit_cmp (visit_under hart asid) (visit_of w))) (Some count) o)) 0
    ≡ cond (returns_to w (Writes hart (Some asid))) count (unwrap_or o 0)
visited w hart asid count o =
    ap (λ b. unwrap_or (cond b (Some count) (cond (is_eq (visit_cmp (visit_under hart asid) (visit_of w))) (Some count) o)) 0) (same-visit (any_visit hart) (visit_of w))
    ∙ (ap (λ b. unwrap_or (cond ((hart == w.hart) && (is_same true w.entry.global && (0 == own w.entry.global w.entry.asid))) (Some count) (cond b (Some count) o)) 0) (same-visit (visit_under hart asid) (visit_of w))
    ∙ picked w.entry.global hart w.hart w.entry.asid asid count o)

-- ---- one more move

module _ (w : Warning) where
  any-more : (xs : List Move) (m : Move) (b : Bool) → returns_to w m ≡ b → list_any (returns_to w) (xs ++ m ∷ []) ≡ (list_any (returns_to w) xs || b)
  any-more xs m b is = list_any-append (returns_to w) xs (m ∷ []) ∙ (ap (λ v. list_any (returns_to w) xs || (v || false)) is ∙ ap (λ v. list_any (returns_to w) xs || v) (or-none b))
    where
      or-none : (v : Bool) → (v || false) ≡ v
      or-none true = refl
      or-none false = refl

  or-true : (b : Bool) → (b || true) ≡ true
  or-true true = refl
  or-true false = refl

  or-false : (b : Bool) → (b || false) ≡ b
  or-false true = refl
  or-false false = refl

  returned : (xs : List Move) (m : Move) → returns_to w m ≡ true → last_return w (xs ++ m ∷ []) ≡ length xs + 1
  returned [] m is = ap (λ b. cond b 1 0) is
  returned (x ∷ xs) m is =
      ap (λ b. cond b (last_return w (xs ++ m ∷ []) + 1) (cond (returns_to w x) 1 0)) (any-more xs m true is ∙ or-true (list_any (returns_to w) xs))
      ∙ let rest : last_return w (xs ++ m ∷ []) ≡ length xs + 1 = returned xs m is in omega (arith, rest)

  did-not : (xs : List Move) (m : Move) → returns_to w m ≡ false → last_return w (xs ++ m ∷ []) ≡ last_return w xs
  did-not [] m is = ap (λ b. cond b 1 0) is
  did-not (x ∷ xs) m is =
      ap (λ b. cond b (last_return w (xs ++ m ∷ []) + 1) (cond (returns_to w x) 1 0)) (any-more xs m false is ∙ or-false (list_any (returns_to w) xs))
      ∙ ap (λ n. cond (list_any (returns_to w) xs) (n + 1) (cond (returns_to w x) 1 0)) (did-not xs m is)

  pub one-more : (moves : List Move) (at : ℕ) (d : Move) (last new : ℕ) → at < length moves
      → new ≡ cond (returns_to w (get_or moves at d)) (at + 1) last → last ≡ last_return w (take at moves) → new ≡ last_return w (take (at + 1) moves)
  one-more moves at d last new low is so-far =
      let m : Move = get_or moves at d in
      let long : length (take at moves) ≡ at = length-take-le at moves (omega (arith, low)) in
      elim (cases_Bool (returns_to w m)) [
        | inl back ↦ is ∙ (ap (λ b. cond b (at + 1) last) back ∙ (ap (λ n. n + 1) (sym long) ∙ (sym (returned (take at moves) m back) ∙ sym (ap (last_return w) (take_more moves at d low)))))
        | inr away ↦ is ∙ (ap (λ b. cond b (at + 1) last) away ∙ (so-far ∙ (sym (did-not (take at moves) m away) ∙ sym (ap (last_return w) (take_more moves at d low)))))
      ]

pub on_ok : {T E P Q : Type 0} (r : Result T E) → OnOk r P → (P → Q) → OnOk r Q
on_ok (Ok x) p f = f p
on_ok (Err e) p f = tt
