-- The moves that concern a hart decide as all moves do.
use Rattle.std.proofs.Common.{◌≡◌, ◌∙◌, ◌+◌, ◌<◌, ◌≤◌, ℕ, Bool, true, false, List, [], ◌∷◌, Option, Some, None, ap, arith, cond, drop, filter, get_or, length, refl, subst, suc, sym, zero}
use Rattle.std.specs.Prelude.{◌&&◌, nat_le, slice_get}
use Rattle.std.specs.List.Sorted.{IsNonDecreasing, IsPartitionPoint}
use Rattle.std.specs.Option.{option_or}
use Rattle.std.proofs.lemmas.Bool.Decides.{nat_tests}
use Rattle.pte.specs.declared.scheme.Scheme.{Scheme}
use Rattle.watch_engine.specs.declared.warning.Warning.{Warning}
use Rattle.watch_causes.specs.declared.log.Numbered.{Numbered}
use Rattle.watch_causes.specs.declared.moves.Move.{Move}
use Rattle.watch_causes.specs.declared.moves.Move.TheVariants.{Fences, Writes}
use Rattle.watch_causes.specs.Concerned.{concerns, decided_at, decision_by, is_fence_for, places_from, places_of}
use Rattle.watch_causes.specs.Decisions.{by_fence, decided, decision, is_late, is_under_asid}
use Rattle.watch_causes.specs.Reasons.{covers}

passes : (m n : ℕ) → m ≤ n → nat_le m n ≡ true
passes m n is = grind (arith, nat_tests)

fails : (m n : ℕ) → n < m → nat_le m n ≡ false
fails m n is = grind (arith, nat_tests)

-- ---- the places that are not below the start

abbrev with : ℕ → ℕ → List ℕ → Bool → List ℕ
with start x xs b = cond b (x ∷ filter (nat_le start) xs) (filter (nat_le start) xs)

pub behind-point : (start : ℕ) (xs : List ℕ) (n : ℕ) → IsPartitionPoint (λ (p : ℕ). p < start) (λ (p : ℕ). start ≤ p) xs n → n ≤ length xs → drop n xs ≡ filter (nat_le start) xs
behind-point start [] zero is within = refl
behind-point start [] (suc n) is within = refl
behind-point start (x ∷ xs) zero is within =
    let here : start ≤ x = is.1 0 x (omega arith) (omega arith) in
    let rest : xs ≡ filter (nat_le start) xs =
    behind-point start xs zero ((λ k d from early. absurd (omega (arith, early))), (λ k d from low. is.1 (suc k) d (omega arith) (omega (arith, low)))) (omega arith) in
    ap (λ ys. x ∷ ys) rest ∙ sym (ap (with start x xs) (passes start x here))
behind-point start (x ∷ xs) (suc n) is within =
    let here : x < start = is.0 0 x (omega arith) (omega arith) in
    let rest : drop n xs ≡ filter (nat_le start) xs =
    behind-point start xs n ((λ k d from early. is.0 (suc k) d (omega arith) (omega (arith, early))), (λ k d from low. is.1 (suc k) d (omega (arith, from)) (omega (arith, low)))) (omega (arith, within)) in
    rest ∙ sym (ap (with start x xs) (fails start x here))

abbrev AllFrom : ℕ → List ℕ → Type 0
AllFrom start xs = (k d : ℕ) → k < length xs → start ≤ get_or xs k d

first-too : (at : ℕ) (rest : List ℕ) (b : Bool) → AllFrom (at + 1) rest → AllFrom at (cond b (at ∷ rest) rest)
first-too at rest true all zero d low = omega arith
first-too at rest true all (suc k) d low = let later : at + 1 ≤ get_or rest k d = all k d (omega (arith, low)) in omega (arith, later)
first-too at rest false all k d low = let later : at + 1 ≤ get_or rest k d = all k d low in omega (arith, later)

first-rises : (at : ℕ) (rest : List ℕ) (b : Bool) → AllFrom (at + 1) rest → IsNonDecreasing rest → IsNonDecreasing (cond b (at ∷ rest) rest)
first-rises at rest false all up i j d le low = up i j d le low
first-rises at rest true all up zero zero d le low = omega arith
first-rises at rest true all up zero (suc j) d le low = let later : at + 1 ≤ get_or rest j d = all j d (omega (arith, low)) in omega (arith, later)
first-rises at rest true all up (suc i) zero d le low = absurd (omega (arith, le))
first-rises at rest true all up (suc i) (suc j) d le low = up i j d (omega (arith, le)) (omega (arith, low))

all-stay : (start : ℕ) (xs : List ℕ) → AllFrom start xs → filter (nat_le start) xs ≡ xs
all-stay start [] all = refl
all-stay start (x ∷ xs) all =
    ap (with start x xs) (passes start x (all 0 x (omega arith)))
    ∙ ap (λ ys. x ∷ ys) (all-stay start xs (λ k d low. all (suc k) d (omega (arith, low))))

first-goes : (start at : ℕ) (rest : List ℕ) (b : Bool) → at < start → filter (nat_le start) (cond b (at ∷ rest) rest) ≡ filter (nat_le start) rest
first-goes start at rest true low = ap (with start at rest) (fails start at low)
first-goes start at rest false low = refl

module _ (fences : List Numbered) (hart : ℕ) where
  all-from : (at : ℕ) (moves : List Move) → AllFrom at (places_from fences hart at moves)
  all-from at [] k d low = absurd (omega (arith, low))
  all-from at (m ∷ moves) k d low = first-too at (places_from fences hart (at + 1) moves) (concerns fences hart m) (all-from (at + 1) moves) k d low

  pub rising : (at : ℕ) (moves : List Move) → IsNonDecreasing (places_from fences hart at moves)
  rising at [] i j d le low = absurd (omega (arith, low))
  rising at (m ∷ moves) i j d le low =
      first-rises at (places_from fences hart (at + 1) moves) (concerns fences hart m) (all-from (at + 1) moves) (rising (at + 1) moves) i j d le low

  places-behind : (k at start : ℕ) (moves : List Move) → start ≡ at + k → filter (nat_le start) (places_from fences hart at moves) ≡ places_from fences hart start (drop k moves)
  places-behind zero at start moves is =
      let same : at ≡ start = omega (arith, is) in
      subst (λ s. filter (nat_le s) (places_from fences hart at moves) ≡ places_from fences hart s moves) same (all-stay at (places_from fences hart at moves) (all-from at moves))
  places-behind (suc k) at start [] is = refl
  places-behind (suc k) at start (m ∷ moves) is =
      first-goes start at (places_from fences hart (at + 1) moves) (concerns fences hart m) (omega (arith, is))
      ∙ places-behind k (at + 1) start moves (omega (arith, is))

-- ---- decisions

module _ (scheme : Scheme) (fences : List Numbered) (w : Warning) where
  other-fence : (o : Option Numbered) → is_fence_for w.hart o ≡ false → by_fence scheme w o ≡ None
  other-fence None other = refl
  other-fence (Some n) other = ap (λ b. cond (b && (covers scheme w.entry n.made && is_late w n.number n.made)) (Some false) None) other

  other-hart : (m : Move) → concerns fences w.hart m ≡ false → decision scheme fences w m ≡ None
  other-hart (Writes hart asid) other = ap (λ b. cond (b && is_under_asid w.entry asid) (Some true) None) other
  other-hart (Fences at) other = other-fence (slice_get fences at) other

  first-decides : (all : List Move) (at : ℕ) (m : Move) (rest : List ℕ) (b : Bool) → concerns fences w.hart m ≡ b → slice_get all at ≡ Some m
      → decided_at scheme fences w all (cond b (at ∷ rest) rest) ≡ option_or (decision scheme fences w m) (decided_at scheme fences w all rest)
  first-decides all at m rest true is here = ap (λ o. option_or (decision_by scheme fences w o) (decided_at scheme fences w all rest)) here
  first-decides all at m rest false is here = sym (ap (λ o. option_or o (decided_at scheme fences w all rest)) (other-hart m is))

  all-decide : (all moves : List Move) (at : ℕ) → ((k : ℕ) → slice_get all (at + k) ≡ slice_get moves k)
      → decided_at scheme fences w all (places_from fences w.hart at moves) ≡ decided scheme fences w moves
  all-decide all [] at are = refl
  all-decide all (m ∷ moves) at are =
      let here : at ≡ at + 0 = omega arith in
      let next : (k : ℕ) → at + 1 + k ≡ at + suc k = λ k. omega arith in
      first-decides all at m (places_from fences w.hart (at + 1) moves) (concerns fences w.hart m) refl (ap (slice_get all) here ∙ are 0)
      ∙ ap (option_or (decision scheme fences w m)) (all-decide all moves (at + 1) (λ k. ap (slice_get all) (next k) ∙ are (suc k)))

  dropped : (n : ℕ) (all : List Move) (k : ℕ) → slice_get all (n + k) ≡ slice_get (drop n all) k
  dropped zero all k = let same : 0 + k ≡ k = omega arith in ap (slice_get all) same
  dropped (suc n) [] k = refl
  dropped (suc n) (m ∷ all) k = let same : suc n + k ≡ suc (n + k) = omega arith in ap (slice_get (m ∷ all)) same ∙ dropped n all k

  pub same-decided : (moves : List Move) (start : ℕ) → decided_at scheme fences w moves (filter (nat_le start) (places_of fences w.hart moves)) ≡ decided scheme fences w (drop start moves)
  same-decided moves start =
      ap (decided_at scheme fences w moves) (places-behind fences w.hart start 0 start moves (omega arith))
      ∙ all-decide moves (drop start moves) start (dropped start moves)
