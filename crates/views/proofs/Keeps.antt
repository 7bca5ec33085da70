-- A step of one seat keeps the rule of the table words: what every kind of step shares.
use Rattle.std.proofs.Common.{◌≡◌, ◌≢◌, ℕ, zero, suc, ◌<◌, true, List, [], ◌∷◌, length, Option, Some, None, sym, refl, ap, ◌∙◌, subst, ⊎_elim, inl, inr, arith, length-set, IfSome}
use Rattle.std.specs.Prelude.{slice_set}
use mathlib.Core.Option.{some, some-injective, some-ne-none}
use mathlib.Core.Logic.{dite}
use native.Mathlib.Decide.{ℕ_discrete}
use lib.ListN.{get_elem?}
use Rattle.atomic_table.specs.Table.{State}
use Rattle.atomic_table.proofs.Lists.{at_set, set_here, set_else}
use Rattle.walk.specs.Leads.{Tables}
use Rattle.walk.specs.Pointers.{pointed}
use Rattle.walk.specs.Stage.{Stage}
use Rattle.walk.specs.Stores.{KeepsPointers}
use Rattle.walk.proofs.Downward.{points-to}
use Rattle.walk.proofs.Stored.{pointers-kept, on_path_kept}
use Rattle.spaces.specs.declared.configuration.Config.{Config}
use Rattle.spaces.specs.Layout.{Layout, layout_of, is_frame}
use Rattle.spaces.specs.Opening.{is_word}
use Rattle.spaces.specs.Held.{word_index}
use Rattle.spaces.specs.Tree.{IsAtHome}
use Rattle.spaces.proofs.Homes.{home-unique}
use Rattle.spaces.proofs.Stored.{is-word}
use Rattle.views.specs.declared.view.Read.{Read}
use Rattle.views.specs.declared.view.View.{View}
use Rattle.views.specs.Rule.{tables_in, IsWalk, Sits, seated, waits, Seated, Tabled}
use Rattle.views.proofs.Readings.{has-stays}
use Rattle.views.proofs.OnBoard.{below, one-seat}
use Rattle.views.proofs.TableWords.{wide-words, word-here, word-there, agree}

-- a word of a frame at home that is no pointer becomes another word, which leads to a frame if it
-- is a pointer
pub record IsStore (l : Layout) (words : Tables) (hart f i x : ℕ) : Type 0 where
  pub home : IsAtHome l hart f
  pub word : is_word l f i ≡ true
  pub was : pointed (words f i) ≡ None
  pub leads : (g : ℕ) → pointed (Some x) ≡ Some g → is_frame l g ≡ true

module _ (c : Config) (s : State ℕ View) (b : Tabled c s) (id : ℕ) (v w : View) (at : get_elem? s.views id ≡ some v) (hart : w.hart ≡ v.hart) (next : w.next ≡ v.next) where
  before : (j : ℕ) (u : View) → get_elem? (slice_set s.views id w) j ≡ some u → (o : View) × (get_elem? s.views j ≡ some o) × (o.hart ≡ u.hart) × (o.next ≡ u.next)
  before j u here =
      ⊎_elim (λ (t : (j ≡ id) × (w ≡ u)). (v, ap (λ (n : ℕ). get_elem? s.views n) t.0 ∙ at, sym hart ∙ ap (λ (z : View). z.hart) t.1, sym next ∙ ap (λ (z : View). z.next) t.1))
      (λ (t : (j ≢ id) × (get_elem? s.views j ≡ some u)). (u, t.1, refl, refl))
      (at_set s.views id j w u here)

  numbered-on : (j : ℕ) (u : View) → get_elem? (slice_set s.views id w) j ≡ some u → u.hart ≡ j
  numbered-on j u here = let old = before j u here in sym old.2 ∙ b.numbered j old.0 old.1

  dealt-on : (j : ℕ) (u : View) → get_elem? (slice_set s.views id w) j ≡ some u → 0 < u.next → u.next ≡ length (slice_set s.views id w)
  dealt-on j u here some' =
      let old = before j u here in
      sym old.3 ∙ b.dealt_all j old.0 old.1 (omega (arith, old.3)) ∙ sym (length-set s.views id w)

  deals-on : (i j : ℕ) (p q : View) → get_elem? (slice_set s.views id w) i ≡ some p → get_elem? (slice_set s.views id w) j ≡ some q → 0 < p.next → (q.hart < p.next) × (0 < q.next → i ≡ j)
  deals-on i j p q at-i at-j some' =
      let old-i = before i p at-i in
      let old-j = before j q at-j in
      let d = b.deals i j old-i.0 old-j.0 old-i.1 old-j.1 (omega (arith, old-i.3)) in
      (omega (arith, d.0, old-i.3, old-j.2), λ (more : 0 < q.next). d.1 (omega (arith, old-j.3)))

  sits-on : (h : ℕ) → Sits s.views h → Sits (slice_set s.views id w) h
  sits-on h (seated j u here is) = dite (ℕ_discrete j id)
      (λ (e : j ≡ id). let same : v ≡ u = some-injective v u (sym at ∙ ap (λ n. get_elem? s.views n) (sym e) ∙ here) in
      seated id w (set_here s.views id w (below s.views id v at)) (hart ∙ (ap (λ (z : View). z.hart) same ∙ is)))
      (λ (n : j ≢ id). seated j u (set_else s.views id j w n ∙ here) is)
  sits-on h (waits j u here some' from) = dite (ℕ_discrete j id)
      (λ (e : j ≡ id). let same : v ≡ u = some-injective v u (sym at ∙ ap (λ n. get_elem? s.views n) (sym e) ∙ here) in
      let n : w.next ≡ u.next = next ∙ ap (λ (z : View). z.next) same in
      waits id w (set_here s.views id w (below s.views id v at)) (omega arith) (omega arith))
      (λ (n : j ≢ id). waits j u (set_else s.views id j w n ∙ here) some' from)

  -- a load
  pub keeps-load : Seated c (tables_in (layout_of c) s.words) w → Tabled c record { words = s.words; homes = s.homes; views = slice_set s.views id w }
  keeps-load mine = record {
    limits = b.limits;
    wide = b.wide;
    inside = b.inside;
    numbered = numbered-on;
    dealt_all = dealt-on;
    every = λ h. sits-on h (b.every h);
    deals = deals-on;
    undealt = λ j u here some' h f k from home. let old = before j u here in b.undealt j old.0 old.1 (omega (arith, old.3)) h f k (omega (arith, old.3)) home;
    each = λ j u here.
        ⊎_elim (λ (t : (j ≡ id) × (w ≡ u)). subst (Seated c (tables_in (layout_of c) s.words)) t.1 mine)
        (λ (t : (j ≢ id) × (get_elem? s.views j ≡ some u)). b.each j u t.1)
        (at_set s.views id j w u here);
  }

  -- a store
  module _ (f i x : ℕ) (store : IsStore (layout_of c) (tables_in (layout_of c) s.words) v.hart f i x) where
    abbrev words' : List ℕ
    words' = slice_set s.words (word_index (layout_of c) f i) x

    keeps-pointers : KeepsPointers (tables_in (layout_of c) s.words) (tables_in (layout_of c) words')
    keeps-pointers = pointers-kept _ _ f i (agree (layout_of c) s.words (wide-words (layout_of c) s.words b.wide) f i store.word x)
        (λ next p. let bad : None ≡ Some next = sym store.was ∙ points-to _ next p in absurd cc)

    pub walk-stays : (o : Option Stage) (root : ℕ) (reads : List Read) → IfSome o (IsWalk c.scheme (tables_in (layout_of c) s.words) root reads) → IfSome o (IsWalk c.scheme (tables_in (layout_of c) words') root reads)
    walk-stays None root reads on = tt
    walk-stays (Some st) root reads on = record {
      on = on_path_kept c.scheme _ _ root st keeps-pointers on.on;
      pointers = on.pointers;
      has = has-stays _ _ keeps-pointers reads on.pointers on.has;
    }

    others : (j : ℕ) (u : View) → get_elem? s.views j ≡ some u → j ≢ id → Seated c (tables_in (layout_of c) words') u
    others j u at' n =
        let t = b.each j u at' in
        record {
          config = t.config;
          local = t.local;
          own = λ g k home.
              word-there (layout_of c) s.words (wide-words (layout_of c) s.words b.wide) f i store.word x g k
              (λ same. n (one-seat c s b j id u v at' at (home-unique (layout_of c) u.hart v.hart g home (subst (IsAtHome (layout_of c) v.hart) (sym same.0) store.home))))
              ∙ t.own g k home;
          walk = walk-stays u.walk u.root u.reads t.walk;
        }

    pointers-inside : (g k q : ℕ) → pointed (tables_in (layout_of c) words' g k) ≡ Some q → is_frame (layout_of c) q ≡ true
    pointers-inside g k q e = elim (is-word g k f i) [
      | inl same ↦
          let here : tables_in (layout_of c) words' g k ≡ Some x =
          ap (λ n. tables_in (layout_of c) words' n k) same.0 ∙ ap (λ n. tables_in (layout_of c) words' f n) same.1 ∙ word-here (layout_of c) s.words (wide-words (layout_of c) s.words b.wide) f i store.word x
          in
          store.leads q (ap pointed (sym here) ∙ e)
      | inr apart ↦ b.inside g k q (ap pointed (sym (word-there (layout_of c) s.words (wide-words (layout_of c) s.words b.wide) f i store.word x g k (λ same. apart same.0 same.1))) ∙ e)
    ]

    pub keeps-store : Seated c (tables_in (layout_of c) words') w → Tabled c record { words = words'; homes = s.homes; views = slice_set s.views id w }
    keeps-store mine = record {
      limits = b.limits;
      wide = omega (arith, b.wide, length-set s.words (word_index (layout_of c) f i) x);
      inside = pointers-inside;
      numbered = numbered-on;
      dealt_all = dealt-on;
      every = λ h. sits-on h (b.every h);
      deals = deals-on;
      undealt = λ j u here some' h g k from home.
          let old = before j u here in
          let dealt-first = (b.deals j id old.0 v old.1 at (omega (arith, old.3))).0 in
          word-there (layout_of c) s.words (wide-words (layout_of c) s.words b.wide) f i store.word x g k
          (λ same. let one = home-unique (layout_of c) h v.hart g home (subst (IsAtHome (layout_of c) v.hart) (sym same.0) store.home) in absurd (omega (arith, one, old.3)))
          ∙ b.undealt j old.0 old.1 (omega (arith, old.3)) h g k (omega (arith, old.3)) home;
      each = λ j u here.
          ⊎_elim (λ (t : (j ≡ id) × (w ≡ u)). subst (Seated c (tables_in (layout_of c) words')) t.1 mine)
          (λ (t : (j ≢ id) × (get_elem? s.views j ≡ some u)). others j u t.1 t.0)
          (at_set s.views id j w u here);
    }
