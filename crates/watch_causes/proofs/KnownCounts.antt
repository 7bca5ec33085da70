-- How many findings each entry counts, with one more verdict.
use Rattle.std.proofs.Common.{◌≡◌, ◌∙◌, ◌+◌, ◌<◌, ℕ, Bool, true, false, List, [], ◌∷◌, Option, Some, None, ap, sym, subst, inl, inr, refl, arith, length, suc, zero}
use Rattle.std.specs.Prelude.{◌==◌, ◌&&◌, cond, get_or, map, nat_lt, not, position, replicate, set, sum}
use Rattle.std.specs.List.{enumerate_from, position_or_len}
use Rattle.std.specs.Option.{is_some}
use Rattle.std.proofs.lemmas.Bool.{cases_Bool, eq-eqb}
use Rattle.std.proofs.lemmas.Grind.{common_steps}
use Rattle.std.proofs.lemmas.List.Quantifiers.{position-Some}
use Rattle.std.proofs.lemmas.List.Sums.{sum_by-set}
use Rattle.std.proofs.lemmas.Bool.Decides.{nat_tests}
use Rattle.watch_causes.specs.declared.known.Known.{Known}
use Rattle.watch_causes.specs.KnownFindings.{KnownEntry, Sourced, begins, counted_at, counts_of, entry_of, is_place, known_count, known_findings, matches}
use Rattle.watch_causes.specs.Tallies.{more_if}

pub no-counts : (base : ℕ) (known : List KnownEntry) → replicate {A = ℕ} (length known) 0 ≡ map (λ (e : ℕ × KnownEntry). 0) (enumerate_from base known)
no-counts base [] = refl
no-counts base (k ∷ known) = ap (λ ns. 0 ∷ ns) (no-counts (base + 1) known)

module _ (f : ℕ → ℕ) (n : ℕ) where
  abbrev counts : ℕ → List KnownEntry → List ℕ
  counts base known = map (λ (e : ℕ × KnownEntry). f e.0) (enumerate_from base known)

  abbrev more : ℕ → List KnownEntry → List ℕ
  more base known = map (λ (e : ℕ × KnownEntry). more_if (n == e.0) (f e.0)) (enumerate_from base known)

  none-more : (base : ℕ) (known : List KnownEntry) → n < base → counts base known ≡ more base known
  none-more base [] low = refl
  none-more base (k ∷ known) low =
      let other : (n == base) ≡ false = grind (arith, nat_tests) in
      ap (λ b. more_if b (f base) ∷ counts (base + 1) known) (sym other)
      ∙ ap (λ ns. more_if (n == base) (f base) ∷ ns) (none-more (base + 1) known (omega arith))

  one-more : (base place : ℕ) (known : List KnownEntry) → n ≡ base + place
      → set (counts base known) place (get_or (counts base known) place 0 + 1) ≡ more base known
  one-more base place [] is = refl
  one-more base zero (k ∷ known) is =
      let same : (n == base) ≡ true = eq-eqb n base (omega arith) in
      ap (λ b. more_if b (f base) ∷ counts (base + 1) known) (sym same)
      ∙ ap (λ ns. more_if (n == base) (f base) ∷ ns) (none-more (base + 1) known (omega arith))
  one-more base (suc place) (k ∷ known) is =
      let other : (n == base) ≡ false = grind (arith, nat_tests) in
      ap (λ b. more_if b (f base) ∷ set (counts (base + 1) known) place (get_or (counts (base + 1) known) place 0 + 1)) (sym other)
      ∙ ap (λ ns. more_if (n == base) (f base) ∷ ns) (one-more (base + 1) place known (omega arith))

length-counts : (f : ℕ → ℕ) (base : ℕ) (known : List KnownEntry) → length (counts f 0 base known) ≡ length known
length-counts f base [] = refl
length-counts f base (k ∷ known) = ap suc (length-counts f (base + 1) known)

module _ (known : List KnownEntry) (verdicts : List Sourced) (v : Sourced) where
  abbrev counts_by : Bool → Option ℕ → List ℕ
  counts_by first place =
      map (λ (e : ℕ × KnownEntry). more_if (first && is_place e.0 place) (known_findings known e.0 verdicts)) (enumerate_from 0 known)

  pub same-counts : begins v verdicts ≡ false → counts_of known verdicts ≡ counts_of known (v ∷ verdicts)
  same-counts begun = sym (ap (λ b. counts_by b (entry_of known v)) begun)

  counted : (place : Option ℕ) → counted_at place (counts_of known verdicts) ≡ counts_by true place
  counted None = refl
  counted (Some place) = one-more (λ n. known_findings known n verdicts) place 0 place known (omega arith)

  pub more-counts : begins v verdicts ≡ true → counted_at (entry_of known v) (counts_of known verdicts) ≡ counts_of known (v ∷ verdicts)
  more-counts first = counted (entry_of known v) ∙ sym (ap (λ b. counts_by b (entry_of known v)) first)

-- ---- the sum

counted-sum : (ns : List ℕ) (place : Option ℕ) → ((p : ℕ) → place ≡ Some p → p < length ns) → sum (counted_at place ns) ≡ more_if (is_some place) (sum ns)
counted-sum ns None within = refl
counted-sum ns (Some p) within =
    let more = sum_by-set (λ n. n) ns p (get_or ns p 0 + 1) 0 (within p refl) in
    omega arith

entry-within : (known : List KnownEntry) (verdicts : List Sourced) (v : Sourced) (p : ℕ) → entry_of known v ≡ Some p → p < length (counts_of known verdicts)
entry-within [] verdicts v p is = absurd cc
entry-within (k ∷ known) verdicts v p is =
    let at = position-Some (λ entry. matches entry v) (k ∷ known) p k is in
    let same = length-counts (λ n. known_findings (k ∷ known) n verdicts) 0 (k ∷ known) in
    omega arith

some-of : (n : ℕ) → (n == 0) ≡ false → 0 < n
some-of n is = grind (arith, nat_tests)

pub counts_add_up : (known : List KnownEntry) (verdicts : List Sourced) → sum (counts_of known verdicts) ≡ known_count known verdicts
counts_add_up known [] = ap sum (sym (no-counts 0 known)) ∙ grind (arith, common_steps)
counts_add_up known (v ∷ verdicts) =
    let so_far = counts_add_up known verdicts in
    elim (cases_Bool (begins v verdicts)) [
      | inl first ↦
          ap sum (sym (more-counts known verdicts v first))
          ∙ (counted-sum (counts_of known verdicts) (entry_of known v) (entry-within known verdicts v)
          ∙ (ap (more_if (is_some (entry_of known v))) so_far
          ∙ sym (ap (λ b. more_if (b && is_some (entry_of known v)) (known_count known verdicts)) first)))
      | inr begun ↦
          ap sum (sym (same-counts known verdicts v begun))
          ∙ (so_far ∙ sym (ap (λ b. more_if (b && is_some (entry_of known v)) (known_count known verdicts)) begun))
    ]

-- ---- the list of the program

module _ (g : Known → KnownEntry) where
  place-of-entries : (v : Sourced) (known : List Known) → position_or_len (λ k. matches (g k) v) known ≡ position_or_len (λ entry. matches entry v) (map g known)
  place-of-entries v [] = refl
  place-of-entries v (k ∷ known) = ap (λ n. cond (not (matches (g k) v)) (1 + n) 0) (place-of-entries v known)

  entry-count : (known : List Known) → length known ≡ length (map g known)
  entry-count [] = refl
  entry-count (k ∷ known) = ap suc (entry-count known)

  pub entry-of-entries : (v : Sourced) (known : List Known) → position (λ k. matches (g k) v) known ≡ entry_of (map g known) v
  entry-of-entries v known =
      ap (λ n. cond (nat_lt n (length known)) (Some n) None) (place-of-entries v known)
      ∙ ap (λ n. cond (nat_lt (position_or_len (λ entry. matches entry v) (map g known)) n) (Some (position_or_len (λ entry. matches entry v) (map g known))) None) (entry-count known)

  pub some-entry : (len : ℕ) (known : List Known) (entries : List KnownEntry) → len ≡ length known → map g known ≡ entries → (len == 0) ≡ false → 0 < length entries
  some-entry len known entries count same is =
      subst (λ (n : ℕ). 0 < n) (count ∙ (entry-count known ∙ ap length same)) (some-of len is)

  pub no-counts-of : (known : List Known) → replicate {A = ℕ} (length known) 0 ≡ counts_of (map g known) []
  no-counts-of known = ap (λ n. replicate {A = ℕ} n 0) (entry-count known) ∙ no-counts 0 (map g known)
