-- What a list of items has once one was added.
use Rattle.std.proofs.Common.{◌≡◌, ℕ, ◌+◌, ◌<◌, List, [], ◌∷◌, ◌++◌, length, Option, Some, None, slice_get, refl, ◌≤◌, sym, ◌∙◌, subst, ◌⊎◌, inl, inr, arith}
use Rattle.std.specs.Prelude.{◌↔◌, Contains}
use Rattle.std.proofs.lemmas.Bool.{cases_lt}
use Rattle.std.proofs.lemmas.Option.{slice_get_within}
use Rattle.std.proofs.lemmas.List.Elements.{Contains-append_left, Contains-push, Contains-push_cases}
use Rattle.tlb.specs.declared.store.Entry.{Entry}
use Rattle.stepcore.specs.State.{State, hart_at}
use Rattle.stale.specs.declared.report.Opening.{Opening}
use Rattle.stale.specs.declared.items.StaleAt.{StaleAt}
use Rattle.stale.specs.Told.{became_of, IsItemOf, IsOfEntry, IsOfEntries, IsOfHarts}
use Rattle.stale.specs.Leaves.{IsHeld}

pub added : (xs ys : List StaleAt) (x item : StaleAt) → ys ≡ xs ++ x ∷ [] → Contains ys item ↔ (Contains xs item ⊎ (x ≡ item))
added xs ys x item is = (
  λ among. Contains-push_cases xs x item (subst (λ (zs : List StaleAt). Contains zs item) is among),
  λ cases. subst (λ (zs : List StaleAt). Contains zs item) (sym is)
      (elim cases [
        | inl old ↦ Contains-append_left xs (x ∷ []) item old
        | inr same ↦ subst (λ (y : StaleAt). Contains (xs ++ x ∷ []) y) same (Contains-push xs x)
      ]),
)

-- one more entry
pub with_entry : (opening : Opening) (hart : ℕ) (e : Entry) (o : Option Entry) (xs ys : List StaleAt) (x : StaleAt) → o ≡ Some e → IsHeld opening.change e → x ≡ became_of opening hart e
    → ys ≡ xs ++ x ∷ [] → (item : StaleAt) → Contains ys item ↔ (Contains xs item ⊎ IsOfEntry opening hart o item)
with_entry opening hart e o xs ys x some held made is item =
    let p = added xs ys x item is in (
      λ among. elim (p.0 among) [
        | inl old ↦ inl old
        | inr same ↦ inr (subst (λ (v : Option Entry). IsOfEntry opening hart v item) (sym some) (record { held = held; is = sym same ∙ made }))
      ],
      λ cases. p.1 (elim cases [
        | inl old ↦ inl old
        | inr of ↦ let it : IsItemOf opening hart e item = subst (λ (v : Option Entry). IsOfEntry opening hart v item) some of in inr (made ∙ sym it.is)
      ]),
    )

-- what is reported of the entries, and of the harts, below a number
module _ (opening : Opening) (old : List StaleAt) where
  abbrev pub ToldEntries : ℕ → List Entry → ℕ → List StaleAt → Type 0
  ToldEntries hart entries n now = (item : StaleAt) → Contains now item ↔ (Contains old item ⊎ IsOfEntries opening hart entries n item)

  abbrev pub ToldHarts : State → ℕ → List StaleAt → Type 0
  ToldHarts m n now = (item : StaleAt) → Contains now item ↔ (Contains old item ⊎ IsOfHarts m opening n item)

  below_next : (n i : ℕ) → n < i + 1 → (n < i) ⊎ (n ≡ i)
  below_next n i below = elim (cases_lt n i) [ inl less ↦ inl less | inr from ↦ inr (omega (arith, below, from)) ]

  pub no_entries : (hart : ℕ) (entries : List Entry) → ToldEntries hart entries 0 old
  no_entries hart entries item = (λ among. inl among, λ cases. elim cases [ inl among ↦ among | inr of ↦ absurd (omega (arith, of.1)) ])

  pub next_entry : (hart : ℕ) (entries : List Entry) (n : ℕ) (now next : List StaleAt) → ToldEntries hart entries n now
      → ((item : StaleAt) → Contains next item ↔ (Contains now item ⊎ IsOfEntry opening hart (slice_get entries n) item)) → ToldEntries hart entries (n + 1) next
  next_entry hart entries n now next told step item = (
    λ among. elim ((step item).0 among) [
      | inl before ↦ elim ((told item).0 before) [
        | inl first ↦ inl first
        | inr of ↦ let less = of.1 in inr (of.0, omega (arith, less), of.2)
      ]
      | inr of ↦ inr (n, omega arith, of)
    ],
    λ cases. (step item).1 (elim cases [
      | inl first ↦ inl ((told item).1 (inl first))
      | inr of ↦ elim (below_next of.0 n of.1) [
        | inl less ↦ inl ((told item).1 (inr (of.0, less, of.2)))
        | inr same ↦ inr (subst (λ (k : ℕ). IsOfEntry opening hart (slice_get entries k) item) same of.2)
      ]
    ]),
  )

  pub no_harts : (m : State) → ToldHarts m 0 old
  no_harts m item = (λ among. inl among, λ cases. elim cases [ inl among ↦ among | inr of ↦ absurd (omega (arith, of.1)) ])

  pub next_hart : (m : State) (n : ℕ) (now next : List StaleAt) → ToldHarts m n now
      → ((item : StaleAt) → Contains next item ↔ (Contains now item ⊎ IsOfEntries opening n (hart_at m n).entries (length (hart_at m n).entries) item)) → ToldHarts m (n + 1) next
  next_hart m n now next told step item = (
    λ among. elim ((step item).0 among) [
      | inl before ↦ elim ((told item).0 before) [
        | inl first ↦ inl first
        | inr of ↦ let less = of.1 in inr (of.0, omega (arith, less), of.2)
      ]
      | inr of ↦ inr (n, omega arith, of)
    ],
    λ cases. (step item).1 (elim cases [
      | inl first ↦ inl ((told item).1 (inl first))
      | inr of ↦ elim (below_next of.0 n of.1) [
        | inl less ↦ inl ((told item).1 (inr (of.0, less, of.2)))
        | inr same ↦ inr (subst (λ (k : ℕ). IsOfEntries opening k (hart_at m k).entries (length (hart_at m k).entries) item) same of.2)
      ]
    ]),
  )

  pub all_entries : (hart : ℕ) (entries : List Entry) (n : ℕ) (now : List StaleAt) → length entries ≤ n → ToldEntries hart entries n now → ToldEntries hart entries (length entries) now
  all_entries hart entries n now all told item = (
    λ among. elim ((told item).0 among) [
      | inl first ↦ inl first
      | inr of ↦ inr (of.0, some_within entries of.0 of.2, of.2)
    ],
    λ cases. (told item).1 (elim cases [
      | inl first ↦ inl first
      | inr of ↦ let less = of.1 in inr (of.0, omega (arith, all, less), of.2)
    ]),
  )
    where
      with_some : (o : Option Entry) → IsOfEntry opening hart o item → (e : Entry) × (o ≡ Some e)
      with_some None of = absurd of
      with_some (Some e) of = (e, refl)

      some_within : (es : List Entry) (age : ℕ) → IsOfEntry opening hart (slice_get es age) item → age < length es
      some_within es age of = let some = with_some (slice_get es age) of in slice_get_within es age some.0 some.1
