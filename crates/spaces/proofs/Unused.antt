-- The frame that a new table takes is the lowest one of its home that is unused.
use Rattle.std.proofs.Common.{◌≡◌, ℕ, zero, suc, ◌+◌, ◌-◌, ◌<◌, ◌≤◌, true, false, cond, Option, Some, None, refl, ap, sym, ◌∙◌, subst, inl, inr, arith}
use Rattle.std.specs.Prelude.{◌↔◌, ◌≢◌, is_none, slice_index}
use Rattle.std.proofs.lemmas.Bool.{cases_Bool, cases_eq, true≢false}
use Rattle.spaces.specs.Layout.{Layout, spare_ppn}
use Rattle.spaces.specs.Holders.{Holders, first_unused, unused_spare}
use Rattle.spaces.specs.Effects.{IsLowestUnused}

none-by : {A : Type 0} (o : Option A) → is_none o ≡ true → o ≡ None
none-by None e = refl
none-by (Some x) e = absurd (true≢false (sym e))

some-by : {A : Type 0} (o : Option A) → o ≢ None → is_none o ≡ false
some-by None busy = absurd (busy refl)
some-by (Some x) busy = refl

busy-by : {A : Type 0} (o : Option A) → is_none o ≡ false → o ≢ None
busy-by o e none = true≢false (sym (ap is_none none) ∙ e)

module _ (holders : Holders) where
  -- of `count` frames from a PPN on, this one is the first that is unused
  pub record FirstFrom (count from ppn : ℕ) : Type 0 where
    pub low : from ≤ ppn
    pub high : ppn < from + count
    pub unused : holders ppn ≡ None
    pub first : (m : ℕ) → from ≤ m → m < ppn → holders m ≢ None

  found : (count from ppn : ℕ) → first_unused holders count from ≡ Some ppn → FirstFrom count from ppn
  found zero from ppn e = absurd (cc (e))
  found (suc n) from ppn e = elim (cases_Bool (is_none (holders from))) [
    | inl free ↦ let same : from ≡ ppn = here free in record {
      low = omega (arith, same);
      high = omega (arith, same);
      unused = subst (λ f. holders f ≡ None) same (none-by (holders from) free);
      first = λ m up down. absurd (omega (arith, same, up, down));
    }
    | inr taken ↦ let rest = found n (from + 1) ppn (ap (λ b. cond b (Some from) (first_unused holders n (from + 1))) (sym taken) ∙ e) in record {
      low = (let l = rest.low in omega arith);
      high = (let l = rest.high in omega arith);
      unused = rest.unused;
      first = λ m up down. elim (cases_eq from m) [
        | inl same ↦ subst (λ f. holders f ≢ None) same (busy-by (holders from) taken)
        | inr other ↦ rest.first m (omega (arith, up, other)) down
      ];
    }
  ]
    where
      here : is_none (holders from) ≡ true → from ≡ ppn
      here free = let both : Some from ≡ Some ppn = ap (λ b. cond b (Some from) (first_unused holders n (from + 1))) (sym free) ∙ e in cc

  pub is-found : (count from ppn : ℕ) → FirstFrom count from ppn → first_unused holders count from ≡ Some ppn
  is-found zero from ppn is = absurd (let l = is.low in let h = is.high in omega arith)
  is-found (suc n) from ppn is = elim (cases_eq from ppn) [
    | inl same ↦ ap (λ b. cond b (Some from) (first_unused holders n (from + 1))) (ap is_none (ap holders same ∙ is.unused)) ∙ ap Some same
    | inr other ↦ let up : from < ppn = (let l = is.low in omega (arith, other)) in
        ap (λ b. cond b (Some from) (first_unused holders n (from + 1))) (some-by (holders from) (is.first from (omega arith) up))
        ∙ is-found n (from + 1) ppn (record {
          low = omega (arith, up);
          high = (let h = is.high in omega arith);
          unused = is.unused;
          first = λ m low down. is.first m (omega (arith, low)) down;
        })
  ]

  none-found : (count from : ℕ) → first_unused holders count from ≡ None → (m : ℕ) → from ≤ m → m < from + count → holders m ≢ None
  none-found zero from e m up down = absurd (omega (arith, up, down))
  none-found (suc n) from e m up down = elim (cases_Bool (is_none (holders from))) [
    | inl free ↦ absurd (let both : Some from ≡ None = ap (λ b. cond b (Some from) (first_unused holders n (from + 1))) (sym free) ∙ e in cc (both))
    | inr taken ↦ elim (cases_eq from m) [
      | inl same ↦ subst (λ f. holders f ≢ None) same (busy-by (holders from) taken)
      | inr other ↦ none-found n (from + 1) (ap (λ b. cond b (Some from) (first_unused holders n (from + 1))) (sym taken) ∙ e) m (omega (arith, up, other)) (omega (arith, down))
    ]
  ]

  pub is-none-found : (count from : ℕ) → ((m : ℕ) → from ≤ m → m < from + count → holders m ≢ None) → first_unused holders count from ≡ None
  is-none-found zero from all = refl
  is-none-found (suc n) from all =
      ap (λ b. cond b (Some from) (first_unused holders n (from + 1))) (some-by (holders from) (all from (omega arith) (omega arith)))
      ∙ is-none-found n (from + 1) (λ m up down. all m (omega (arith, up)) (omega (arith, down)))

pub lowest-is : (l : Layout) (holders : Holders) (h ppn : ℕ) → (unused_spare l holders h ≡ Some ppn) ↔ IsLowestUnused l holders h ppn
lowest-is l holders h ppn = (
  λ e. let f = found holders (slice_index l.spares h) (spare_ppn l h) ppn e in
      let low = f.low in
      let high = f.high in
      record {
        number = ppn - spare_ppn l h;
        below = omega arith;
        is = omega arith;
        unused = f.unused;
        lowest = λ n less. f.first (spare_ppn l h + n) (omega arith) (omega (arith, less));
      },
  λ is. is-found holders (slice_index l.spares h) (spare_ppn l h) ppn (record {
    low = (let at = is.is in omega arith);
    high = (let at = is.is in let b = is.below in omega arith);
    unused = is.unused;
    first = λ m up down.
        let at = is.is in
        let same : spare_ppn l h + (m - spare_ppn l h) ≡ m = omega (arith, up) in
        subst (λ f. holders f ≢ None) same (is.lowest (m - spare_ppn l h) (omega (arith, up, down)));
  }),
)

pub none-is : (l : Layout) (holders : Holders) (h : ℕ) → (unused_spare l holders h ≡ None) ↔ ((n : ℕ) → n < slice_index l.spares h → holders (spare_ppn l h + n) ≢ None)
none-is l holders h = (
  λ e n less. none-found holders (slice_index l.spares h) (spare_ppn l h) e (spare_ppn l h + n) (omega arith) (omega (arith, less)),
  λ all. is-none-found holders (slice_index l.spares h) (spare_ppn l h) (λ m up down.
      let same : spare_ppn l h + (m - spare_ppn l h) ≡ m = omega (arith, up) in
      subst (λ f. holders f ≢ None) same (all (m - spare_ppn l h) (omega (arith, up, down)))),
)
