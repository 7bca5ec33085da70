-- Roots in ascending order.
use Rattle.std.proofs.Common.{◌≡◌, ℕ, zero, suc, Bool, true, false, ◌+◌, ◌<◌, ◌≤◌, Option, Some, List, [], ◌∷◌, length, get_or, drop, ap, sym, ◌∙◌, refl, inl, inr, arith}
use Rattle.std.specs.Prelude.{◌==◌, ◌&&◌, ◌||◌, nat_le, nat_lt}
use Rattle.std.specs.List.{insert, list_all, list_any}
use Rattle.std.specs.List.Sorted.{IsNonDecreasing, IsPartitionPoint}
use Rattle.std.proofs.lemmas.Bool.{and_from, and_parts, cases_eq, cases_lt, eq-eqb, false_from_ne_true, ne_eqb, not_from_false, or_left}
use Rattle.std.proofs.lemmas.List.{get_or_default}
use Rattle.std.proofs.lemmas.List.Folds.{list_any_at, list_any_none}
use Rattle.std.proofs.lemmas.List.Sorted.{IsPermutation-insert, list_any-IsPermutation}
use Rattle.watch.specs.declared.trace.Frames.{Frames}
use Rattle.watch.specs.declared.trace.Space.{Space}
use Rattle.watch.specs.Trace.{is_among}
use Rattle.watch_engine.specs.Held.{AreEntered, IsWith, stays}
use Rattle.watch_engine.proofs.Lists.{at_most, from_at_most, from_within, within}

-- those before a place are below a number, and the others are not
abbrev pub IsPlace : List ℕ → ℕ → ℕ → Type 0
IsPlace roots place n = IsPartitionPoint (λ r. r < n) (λ r. n ≤ r) roots place

pub at_place : (roots : List ℕ) (place n d : ℕ) → IsPlace roots place n → IsNonDecreasing roots → place < length roots → (get_or roots place d == n) ≡ list_any (λ r. r == n) roots
at_place roots place n d (below, above) order here =
    elim (cases_eq (get_or roots place d) n) [
      | inl same ↦
          let is : (get_or roots place d == n) ≡ true = eq-eqb _ _ same in
          is ∙ sym (list_any_at (λ r. r == n) roots place d here is)
      | inr other ↦
          ne_eqb _ _ other ∙ sym (list_any_none (λ r. r == n) roots (λ k e among. ne_eqb _ _ (λ same.
          let go : get_or roots k e ≡ n → k < place → ⊥ = λ same early. let b = below k e (omega arith) early in absurd (omega arith) in
          elim (cases_lt k place) [
            | inl early ↦ go same early
            | inr late ↦
                let up = order place k e late among in
                let least = above place e (omega arith) here in
                let read = get_or_default roots place d e here in
                other (omega arith)
          ])))
    ]

pub past_end : (roots : List ℕ) (place n : ℕ) → IsPlace roots place n → length roots ≤ place → list_any (λ r. r == n) roots ≡ false
past_end roots place n (below, above) end = list_any_none (λ r. r == n) roots (λ k d among. ne_eqb _ _ (λ same. let b = below k d (omega arith) (omega arith) in absurd (omega arith)))

-- with one more
either : (a b : Bool) → (b || a) ≡ (a || b)
either true true = refl
either true false = refl
either false true = refl
either false false = refl

pub inserted : (root : ℕ) (roots : List ℕ) (place : ℕ) → IsWith root roots (insert roots place root)
inserted root roots place test = sym (list_any-IsPermutation test (root ∷ roots) (insert roots place root) (IsPermutation-insert roots place root)) ∙ either (list_any test roots) (test root)

pub new_entered : (space : Space) (old new : List ℕ) → IsWith space.root old new → AreEntered (Some space) old new
new_entered space old new is root = is (λ r. r == root) ∙ either (space.root == root) (list_any (λ r. r == root) old)

-- all from a place on, and all before it, pass a test
pub all_from : (p : ℕ → Bool) (xs : List ℕ) (n : ℕ) → ((k d : ℕ) → n ≤ k → k < length xs → p (get_or xs k d) ≡ true) → list_all p (drop n xs) ≡ true
all_from p [] zero f = refl
all_from p [] (suc n) f = refl
all_from p (x ∷ xs) zero f = and_from _ _ (f 0 x (omega arith) (omega arith)) (all_from p xs zero (λ k d from among. f (suc k) d (omega arith) (omega arith)))
all_from p (x ∷ xs) (suc n) f = all_from p xs n (λ k d from among. f (suc k) d (omega arith) (omega arith))

pub all_before : (p : ℕ → Bool) (xs : List ℕ) (n : ℕ) → ((k d : ℕ) → k < n → p (get_or xs k d) ≡ true) → list_all p (drop n xs) ≡ list_all p xs
all_before p [] zero f = refl
all_before p [] (suc n) f = refl
all_before p (x ∷ xs) zero f = refl
all_before p (x ∷ xs) (suc n) f = all_before p xs n (λ k d early. f (suc k) d (omega arith)) ∙ sym (ap (λ b. b && list_all p xs) (f 0 x (omega arith)))

-- below the frames, or above them
below-stays : (frames : Frames) (satps : List (Option Space)) (root : ℕ) → root < frames.first → stays frames satps root ≡ true
below-stays frames satps root below =
    or_left _ _ (not_from_false _ (false_from_ne_true (is_among frames root) (λ t.
    let p = at_most _ _ (and_parts (nat_le frames.first root) (nat_lt root (frames.first + frames.count)) t).0 in
    absurd (omega arith))))

pub early_stay : (frames : Frames) (satps : List (Option Space)) (roots : List ℕ) (place : ℕ) → IsPlace roots place frames.first → list_all (stays frames satps) (drop place roots) ≡ list_all (stays frames satps) roots
early_stay frames satps roots place (below, above) = all_before (stays frames satps) roots place (λ k d early. below-stays frames satps (get_or roots k d) (below k d (omega arith) early))

pub late_stay : (frames : Frames) (satps : List (Option Space)) (roots : List ℕ) (place d : ℕ) → IsNonDecreasing roots → place < length roots → frames.first ≤ get_or roots place d → is_among frames (get_or roots place d) ≡ false
    → list_all (stays frames satps) (drop place roots) ≡ true
late_stay frames satps roots place d order here least not_among =
    all_from (stays frames satps) roots place (λ k e from among.
    or_left _ _ (not_from_false _ (false_from_ne_true (is_among frames (get_or roots k e)) (λ t.
    let high = within _ _ (and_parts (nat_le frames.first (get_or roots k e)) (nat_lt (get_or roots k e) (frames.first + frames.count)) t).1 in
    let up = order place k e from among in
    let read = get_or_default roots place d e here in
    let no = sym (and_from _ _ (from_at_most frames.first (get_or roots place d) least) (from_within (get_or roots place d) (frames.first + frames.count) (omega arith))) ∙ not_among in
    cc))))
