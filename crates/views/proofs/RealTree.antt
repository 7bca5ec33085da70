-- The shared words are a tree, of which each home has a seat or none has begun.
use Rattle.std.proofs.Common.{◌≡◌, ◌⊎◌, ℕ, zero, suc, ◌+◌, ◌<◌, length, Option, Some, None, subst, sym, ap, ◌∙◌, refl, arith, inl, inr}
use Rattle.std.specs.Prelude.{slice_index}
use mathlib.Core.Logic.{dite}
use native.Mathlib.Decide.{ℕ_discrete}
use Rattle.atomic_table.specs.Table.{State}
use Rattle.spaces.specs.declared.configuration.Config.{Config}
use Rattle.spaces.specs.declared.places.Place.{Place}
use Rattle.spaces.specs.Layout.{layout_of, home_of, spare_ppn}
use Rattle.spaces.specs.Holders.{Holders}
use Rattle.spaces.specs.Held.{holders_of, memory_words}
use Rattle.spaces.specs.Opening.{opening}
use Rattle.spaces.specs.Tree.{IsHome, IsTree, of_spare}
use Rattle.spaces.proofs.Homes.{home-unique}
use Rattle.spaces.proofs.OpeningTree.{opening-tree}
use Rattle.spaces.proofs.Trees.{home-same}
use Rattle.views.specs.declared.view.View.{View}
use Rattle.views.specs.Rule.{memory_of, tables_in, Sits, seated, waits, Tabled}
use Rattle.views.proofs.EditKeeps.{live-layout, local-home}

or_else : Option Place → Option Place → Option Place
or_else (Some place) other = Some place
or_else None other = other

or-else-cases : (a d : Option Place) (place : Place) → or_else a d ≡ Some place → (a ≡ Some place) ⊎ (d ≡ Some place)
unfolding or_else
or-else-cases (Some p) d place e = inl e
or-else-cases None d place e = inr e

module _ (c : Config) (s : State ℕ View) (b : Tabled c s) where
  -- the holders as a hart knows them
  abbrev holders-by : (h : ℕ) → Sits s.views h → Holders
  holders-by h (seated j v at is) = holders_of (memory_of (layout_of c) v)
  holders-by h (waits j v at some' from) = λ f. None

  abbrev holders-at : ℕ → Holders
  holders-at h = holders-by h (b.every h)

  upto : ℕ → Holders
  upto zero f = None
  upto (suc n) f = or_else (holders-at n f) (upto n f)

  pub holders-all : Holders
  holders-all = upto (length (layout_of c).spares)

  -- of a place at home there
  own-by : (h : ℕ) (x : Sits s.views h) (f : ℕ) (place : Place) → holders-by h x f ≡ Some place → home_of (layout_of c) place ≡ h
  own-by h (seated j v at is) f place e = (b.each j v at).local.alone f place e ∙ is
  own-by h (waits j v at some' from) f place e = absurd (let bad : None ≡ Some place = e in cc)

  known : (n f : ℕ) (place : Place) → upto n f ≡ Some place → (h : ℕ) × (h < n) × (holders-at h f ≡ Some place)
  unfolding upto
  known zero f place e = absurd (let bad : None ≡ Some place = e in cc)
  known (suc n) f place e = elim (or-else-cases (holders-at n f) (upto n f) place e) [
    | inl here ↦ (n, omega arith, here)
    | inr lower ↦ let t = known n f place lower in (t.0, omega (arith, t.1), t.2)
  ]

  -- where a hart knows of one there is one
  some-known : (n h f : ℕ) (place : Place) → h < n → holders-at h f ≡ Some place → upto n f ≡ None → ⊥
  unfolding upto or_else
  some-known zero h f place less e none = omega arith
  some-known (suc n) h f place less e none = by (holders-at n f) refl none (λ below rest. some-known n h f place below e rest)
    where
      by : (x : Option Place) → holders-at n f ≡ x → or_else x (upto n f) ≡ None → (h < n → upto n f ≡ None → ⊥) → ⊥
      by (Some p) is none' lower = let bad : Some p ≡ None = none' in cc
      by None is none' lower = dite (ℕ_discrete h n)
          (λ (same : h ≡ n). let bad : None ≡ Some place = sym is ∙ ap (λ k. holders-at k f) (sym same) ∙ e in cc)
          (λ (apart : h ≡ n → ⊥). lower (omega (arith, less, apart)) none')

  home-own : (h : ℕ) → h < length (layout_of c).spares → (x : Sits s.views h) → IsHome (layout_of c) (tables_in (layout_of c) s.words) h (holders-by h x)
  home-own h less (seated j v at is) =
      let t = b.each j v at in
      subst (λ (k : ℕ). IsHome (layout_of c) (tables_in (layout_of c) s.words) k (holders_of (memory_of (layout_of c) v))) is
      (home-same (layout_of c) (live-layout c b.limits) (memory_words (memory_of (layout_of c) v)) (tables_in (layout_of c) s.words) v.hart (holders_of (memory_of (layout_of c) v))
      (holders_of (memory_of (layout_of c) v)) (local-home (layout_of c) v t.local) t.own (λ n less'. refl) (λ f place home e. e))
  home-own h less (waits j v at some' from) =
      let fits = live-layout c b.limits in
      home-same (layout_of c) fits (opening (layout_of c)) (tables_in (layout_of c) s.words) h (λ f. None) (λ f. None) (opening-tree (layout_of c) fits h less)
      (λ f i home. b.undealt j v at some' h f i from home) (λ n less'. refl) (λ f place home e. e)

  -- what is known of a spare frame at home is known there
  kept-at : (h n : ℕ) → n < slice_index (layout_of c).spares h → h < length (layout_of c).spares → (x y : Option Place)
      → holders-all (spare_ppn (layout_of c) h + n) ≡ x → holders-at h (spare_ppn (layout_of c) h + n) ≡ y → x ≡ y
  unfolding holders-all
  kept-at h n below less (Some q) y e is =
      let t = known (length (layout_of c).spares) (spare_ppn (layout_of c) h + n) q e in
      let home = own-by t.0 (b.every t.0) (spare_ppn (layout_of c) h + n) q t.2 in
      let there = (home-own t.0 t.1 (b.every t.0)).held (spare_ppn (layout_of c) h + n) q t.2 home in
      let same : t.0 ≡ h = home-unique (layout_of c) t.0 h (spare_ppn (layout_of c) h + n) (of_spare there.0 there.1 there.2) (of_spare n below refl) in
      sym (subst (λ k. holders-at k (spare_ppn (layout_of c) h + n) ≡ Some q) same t.2) ∙ is
  kept-at h n below less None None e is = refl
  kept-at h n below less None (Some p) e is = absurd (some-known (length (layout_of c).spares) h (spare_ppn (layout_of c) h + n) p less is e)

  fewer-at : (h f : ℕ) (place : Place) → home_of (layout_of c) place ≡ h → holders-all f ≡ Some place → holders-at h f ≡ Some place
  unfolding holders-all
  fewer-at h f place home e =
      let t = known (length (layout_of c).spares) f place e in
      subst (λ k. holders-at k f ≡ Some place) (sym (own-by t.0 (b.every t.0) f place t.2) ∙ home) t.2

  pub real-tree : IsTree (layout_of c) (tables_in (layout_of c) s.words) holders-all
  real-tree h less =
      home-same (layout_of c) (live-layout c b.limits) (tables_in (layout_of c) s.words) (tables_in (layout_of c) s.words) h (holders-at h) holders-all (home-own h less (b.every h)) (λ f i home. refl)
      (λ n below. kept-at h n below less (holders-all (spare_ppn (layout_of c) h + n)) (holders-at h (spare_ppn (layout_of c) h + n)) refl refl) (λ f place home e. fewer-at h f place home e)
