-- The rule of the table words at the opening, and with a seat that is dealt.
use Rattle.std.proofs.Common.{◌≡◌, ◌≢◌, ◌⊎◌, ℕ, zero, suc, ◌*◌, ◌+◌, ◌<◌, ◌≤◌, List, [], ◌∷◌, ◌++◌, length, Some, None, sym, refl, ap, ◌∙◌, subst, ⊎_elim, inl, inr, arith, length-set}
use Rattle.std.specs.Prelude.{slice_set, replicate}
use Rattle.std.proofs.lemmas.Bool.{cases_lt}
use mathlib.Core.Option.{some, some-injective, some-ne-none}
use mathlib.Core.Logic.{dite}
use native.Mathlib.Decide.{ℕ_discrete}
use lib.ListN.{get_elem?, length-append}
use Rattle.atomic_table.specs.Table.{State, opening as at_start}
use Rattle.atomic_table.proofs.Lists.{at_set, set_here, set_else, at_longer, at_last}
use Rattle.walk.specs.Leads.{Tables}
use Rattle.walk.specs.Pointers.{pointed}
use Rattle.spaces.specs.declared.configuration.Config.{Config}
use Rattle.spaces.specs.Layout.{Layout, layout_of, frame_count, spare_ppn}
use Rattle.spaces.specs.Limits.{MeetsLimits}
use Rattle.spaces.specs.declared.configuration.TheConstants.{MAX_LIVE_FRAMES}
use Rattle.spaces.specs.Opening.{first_words, opening}
use Rattle.spaces.specs.Tree.{IsAtHome}
use Rattle.spaces.proofs.Opened.{length-first_words, words-open}
use Rattle.spaces.proofs.OpenedMemory.{holders-open, memory-open, opening-inside}
use Rattle.spaces.proofs.WordLists.{list-front}
use Rattle.views.specs.declared.view.View.{View}
use Rattle.views.specs.Rule.{size, board_size, board_words, Sits, seated, waits, tables_in, starting, first_view, dealer, dealt, Local, Seated, Tabled}
use Rattle.shoot.specs.declared.TheConstants.{MAX_TICKETS}
use Rattle.views.proofs.OnBoard.{below}
use Rattle.views.proofs.EditKeeps.{live-layout, live-limits}

length-zeros : (n : ℕ) → length {A = ℕ} (replicate n 0) ≡ n
length-zeros zero = refl
length-zeros (suc n) = ap suc (length-zeros n)

-- a view that begins has a memory just opened
pub local-starting : (c : Config) → MeetsLimits MAX_LIVE_FRAMES c → (hart next : ℕ) → hart < length (layout_of c).spares → Local (layout_of c) (starting c hart next)
local-starting c limits hart next less = record {
  hart = less;
  memory = memory-open c (live-limits c limits);
  alone = λ f place e. absurd (let bad : None ≡ Some place = sym (holders-open c f) ∙ e in cc);
  lowest = record {
    room = omega arith;
    taken = λ n below. absurd (omega (arith, below));
    unused = λ n from below. holders-open c (spare_ppn (layout_of c) hart + n);
  };
}

pub harts-are : (c : Config) → MeetsLimits MAX_LIVE_FRAMES c → 0 < length (layout_of c).spares
harts-are c m = omega (arith, m.spares, m.some_hart)

pub lone : (v u : View) (j : ℕ) → get_elem? (v ∷ []) j ≡ some u → (j ≡ 0) × (v ≡ u)
lone v u zero e = (refl, some-injective v u e)
lone v u (suc j) e = absurd (some-ne-none u (sym e))

-- who has a seat when one has
sits-first : (v : View) → v.next ≡ 1 → v.hart ≡ 0 → (h : ℕ) → Sits (v ∷ []) h
sits-first v next hart zero = seated 0 v refl hart
sits-first v next hart (suc h) = waits 0 v refl (omega (arith, next)) (omega (arith, next))

pub length-board_words : (l : Layout) → length (board_words l) ≡ board_size l
length-board_words l =
    length-append (first_words l (size l)) (replicate (length l.spares * length l.spares * MAX_TICKETS) 0)
    ∙ (let a = length-first_words l (size l) in let z = length-zeros (length l.spares * length l.spares * MAX_TICKETS) in omega (arith, a, z))

-- a hart that has done nothing sits well where its words are as at the opening
starting-seated : (c : Config) → MeetsLimits MAX_LIVE_FRAMES c → (words : Tables) (hart next : ℕ) → hart < length (layout_of c).spares
    → ((f i : ℕ) → IsAtHome (layout_of c) hart f → words f i ≡ opening (layout_of c) f i) → Seated c words (starting c hart next)
starting-seated c limits words hart next less own = record {
  config = refl;
  local = local-starting c limits hart next less;
  own = λ f i home. own f i home ∙ sym (words-open (layout_of c) (replicate (frame_count (layout_of c)) None) f i);
  walk = tt;
}

-- the tables of the words at the opening
first-tables : (l : Layout) (f i : ℕ) → tables_in l (board_words l) f i ≡ opening l f i
first-tables l f i =
    list-front l (first_words l (size l)) (replicate (length l.spares * length l.spares * MAX_TICKETS) 0) [] (length-first_words l (size l)) f i
    ∙ words-open l [] f i

pub open-keeps : (c : Config) → MeetsLimits MAX_LIVE_FRAMES c → Tabled c (at_start (board_words (layout_of c)) [] (first_view c))
open-keeps c limits = record {
  limits = limits;
  wide = omega (arith, length-board_words (layout_of c));
  inside = λ f i g e. opening-inside (layout_of c) (live-layout c limits) f i g (ap pointed (sym (first-tables (layout_of c) f i)) ∙ e);
  numbered = λ j v at. let a = lone (first_view c) v j at in ap (λ (z : View). z.hart) (sym a.1) ∙ sym a.0;
  dealt_all = λ j v at some'. ap (λ (z : View). z.next) (sym (lone (first_view c) v j at).1);
  every = sits-first (first_view c) refl refl;
  deals = λ i j v w at-i at-j some'.
      let a = lone (first_view c) v i at-i in
      let b = lone (first_view c) w j at-j in
      let next : v.next ≡ 1 = ap (λ (z : View). z.next) (sym a.1) in
      let hart : w.hart ≡ 0 = ap (λ (z : View). z.hart) (sym b.1) in
      (omega arith, λ (h : 0 < w.next). a.0 ∙ sym b.0);
  undealt = λ j v at some' h f i from home. first-tables (layout_of c) f i;
  each = λ j v at.
      subst (Seated c (tables_in (layout_of c) (board_words (layout_of c)))) (lone (first_view c) v j at).1
      (starting-seated c limits (tables_in (layout_of c) (board_words (layout_of c))) 0 1 (harts-are c limits) (λ f i home. first-tables (layout_of c) f i));
}

module _ (c : Config) (id : ℕ) (v : View) (some' : 0 < v.next) (room : v.next < length (layout_of c).spares) (s : State ℕ View) (b : Tabled c s) (at : get_elem? s.views id ≡ some v) where
  abbrev more : List View
  more = slice_set s.views id (dealer v) ++ dealt v ∷ []

  snoc : {A : Type 0} (l : List A) (a b : A) (j : ℕ) → get_elem? (l ++ a ∷ []) j ≡ some b → (get_elem? l j ≡ some b) ⊎ ((a ≡ b) × (j ≡ length l))
  snoc [] a b zero e = inr (some-injective a b e, refl)
  snoc [] a b (suc j) e = absurd (some-ne-none b (sym e))
  snoc (x ∷ xs) a b zero e = inl e
  snoc (x ∷ xs) a b (suc j) e = ⊎_elim (λ (t : get_elem? xs j ≡ some b). inl t) (λ (t : (a ≡ b) × (j ≡ length xs)). inr (t.0, ap suc t.1)) (snoc xs a b j e)

  -- the dealer, another seat of before, or the new one
  pub data Was (j : ℕ) (u : View) : Type 0 where
    mine : j ≡ id → dealer v ≡ u → Was j u
    other : get_elem? s.views j ≡ some u → j ≢ id → Was j u
    new : dealt v ≡ u → j ≡ length (slice_set s.views id (dealer v)) → Was j u

  pub was : (j : ℕ) (u : View) → get_elem? more j ≡ some u → Was j u
  was j u here = ⊎_elim
      (λ (t : get_elem? (slice_set s.views id (dealer v)) j ≡ some u). ⊎_elim
      (λ (y : (j ≡ id) × (dealer v ≡ u)). mine y.0 y.1)
      (λ (y : (j ≢ id) × (get_elem? s.views j ≡ some u)). other y.1 y.0)
      (at_set s.views id j (dealer v) u t))
      (λ (t : (dealt v ≡ u) × (j ≡ length (slice_set s.views id (dealer v)))). new t.0 t.1)
      (snoc (slice_set s.views id (dealer v)) (dealt v) u j here)

  dealer_seated : Seated c (tables_in (layout_of c) s.words) (dealer v)
  dealer_seated = let t = b.each id v at in record {
    config = t.config;
    local = record { hart = t.local.hart; memory = t.local.memory; alone = t.local.alone; lowest = t.local.lowest };
    own = t.own;
    walk = t.walk;
  }

  dealt_seated : Seated c (tables_in (layout_of c) s.words) (dealt v)
  dealt_seated =
      let t = b.each id v at in
      subst (λ k. Seated c (tables_in (layout_of c) s.words) (starting k v.next 0)) (sym t.config)
      (starting-seated c b.limits (tables_in (layout_of c) s.words) v.next 0 room (λ f i home. b.undealt id v at some' v.next f i (omega arith) home))

  apart : (j : ℕ) (u : View) → get_elem? s.views j ≡ some u → u.hart < v.next
  apart j u at' = (b.deals id j v u at at' some').0

  numbered_more : (j : ℕ) (u : View) → Was j u → u.hart ≡ j
  numbered_more j u (mine e q) = sym (ap (λ (z : View). z.hart) q) ∙ b.numbered id v at ∙ sym e
  numbered_more j u (other at' n) = b.numbered j u at'
  numbered_more j u (new q e) = sym (ap (λ (z : View). z.hart) q) ∙ b.dealt_all id v at some' ∙ sym (length-set s.views id (dealer v)) ∙ sym e

  dealt_more : (j : ℕ) (u : View) → Was j u → 0 < u.next → u.next ≡ length more
  dealt_more j u (mine e q) h =
      let next = ap (λ (z : View). z.next) q in
      let all = b.dealt_all id v at some' in
      let long = length-append (slice_set s.views id (dealer v)) (dealt v ∷ []) in
      let same = length-set s.views id (dealer v) in
      omega (arith, next, all, long, same)
  dealt_more j u (other at' n) h = absurd (n (sym ((b.deals id j v u at at' some').1 h)))
  dealt_more j u (new q e) h = let y = ap (λ (z : View). z.next) q in absurd (omega arith)

  deals_more : (i j : ℕ) (u w : View) → Was i u → Was j w → 0 < u.next → (w.hart < u.next) × (0 < w.next → i ≡ j)
  deals_more i j u w (mine e q) (mine e' q') h = let l = apart id v at in let x = ap (λ (z : View). z.next) q in let y = ap (λ (z : View). z.hart) q' in (omega arith, λ _. e ∙ sym e')
  deals_more i j u w (mine e q) (other at' n) h = let l = apart j w at' in let x = ap (λ (z : View). z.next) q in (omega arith, λ (k : 0 < w.next). absurd (n (sym ((b.deals id j v w at at' some').1 k))))
  deals_more i j u w (mine e q) (new q' e') h = let x = ap (λ (z : View). z.next) q in let y = ap (λ (z : View). z.hart) q' in let y' = ap (λ (z : View). z.next) q' in (omega arith, λ (k : 0 < w.next). absurd (omega arith))
  deals_more i j u w (other at' n) q h = absurd (n (sym ((b.deals id i v u at at' some').1 h)))
  deals_more i j u w (new q e) r h = let y = ap (λ (z : View). z.next) q in absurd (omega arith)

  undealt_more : (j : ℕ) (u : View) → Was j u → 0 < u.next → (h f i : ℕ) → u.next ≤ h → IsAtHome (layout_of c) h f → tables_in (layout_of c) s.words f i ≡ opening (layout_of c) f i
  undealt_more j u (mine e q) more-next h f i from home = let x = ap (λ (z : View). z.next) q in b.undealt id v at some' h f i (omega (arith, x)) home
  undealt_more j u (other at' n) more-next h f i from home = b.undealt j u at' more-next h f i from home
  undealt_more j u (new q e) more-next h f i from home = let y = ap (λ (z : View). z.next) q in absurd (omega arith)

  each_more : (j : ℕ) (u : View) → Was j u → Seated c (tables_in (layout_of c) s.words) u
  each_more j u (mine e q) = subst (Seated c (tables_in (layout_of c) s.words)) q dealer_seated
  each_more j u (other at' n) = b.each j u at'
  each_more j u (new q e) = subst (Seated c (tables_in (layout_of c) s.words)) q dealt_seated

  sits-more : (h : ℕ) → Sits s.views h → Sits more h
  sits-more h (seated j u here is) = dite (ℕ_discrete j id)
      (λ (e : j ≡ id). let same : v ≡ u = some-injective v u (sym at ∙ ap (λ n. get_elem? s.views n) (sym e) ∙ here) in
      seated id (dealer v) (at_longer (slice_set s.views id (dealer v)) (dealt v ∷ []) id (dealer v) (set_here s.views id (dealer v) (below s.views id v at))) (ap (λ (z : View). z.hart) same ∙ is))
      (λ (n : j ≢ id). seated j u (at_longer (slice_set s.views id (dealer v)) (dealt v ∷ []) j u (set_else s.views id j (dealer v) n ∙ here)) is)
  sits-more h (waits j u here more-next from) =
      let mine : j ≡ id = sym ((b.deals id j v u at here some').1 more-next) in
      let same : v ≡ u = some-injective v u (sym at ∙ ap (λ n. get_elem? s.views n) (sym mine) ∙ here) in
      let next : u.next ≡ v.next = sym (ap (λ (z : View). z.next) same) in
      dite (ℕ_discrete v.next h)
      (λ (e : v.next ≡ h). seated (length (slice_set s.views id (dealer v))) (dealt v) (at_last (slice_set s.views id (dealer v)) (dealt v) (length (slice_set s.views id (dealer v))) refl) e)
      (λ (n : v.next ≢ h). waits id (dealer v) (at_longer (slice_set s.views id (dealer v)) (dealt v ∷ []) id (dealer v) (set_here s.views id (dealer v) (below s.views id v at))) (omega arith)
      (elim (cases_lt v.next h) [ inl less ↦ omega arith | inr above ↦ absurd (n (omega arith)) ]))

  pub deal-keeps : Tabled c record { words = s.words; homes = s.homes; views = more }
  deal-keeps = record {
    limits = b.limits;
    wide = b.wide;
    inside = b.inside;
    numbered = λ j u at-j. numbered_more j u (was j u at-j);
    dealt_all = λ j u at-j. dealt_more j u (was j u at-j);
    every = λ h. sits-more h (b.every h);
    deals = λ i j u w at-i at-j. deals_more i j u w (was i u at-i) (was j w at-j);
    undealt = λ j u at-j. undealt_more j u (was j u at-j);
    each = λ j u here. each_more j u (was j u here);
  }
