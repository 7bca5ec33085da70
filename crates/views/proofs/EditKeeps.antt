-- The store of an edit by the home keeps the rule of the table words.
use Rattle.std.proofs.Common.{◌≡◌, ℕ, ◌+◌, ◌^◌, ◌<◌, ◌==◌, Bool, true, false, cond, List, Option, Some, None, Ok, is_some, sym, refl, ap, ◌∙◌, subst, inl, inr, arith}
use Rattle.std.specs.Prelude.{◌≢◌, nat_lt, slice_index, slice_set}
use Rattle.std.proofs.lemmas.Bool.Decides.{nat_tests}
use Rattle.std.proofs.lemmas.Bool.{cases_eq, cases_lt, cases_order, eq-eqb, ne_eqb, lt-ltb}
use Rattle.std.proofs.Math.Path.{fun_ext}
use mathlib.Core.Option.{some}
use lib.ListN.{get_elem?}
use Rattle.atomic_table.specs.Table.{State}
use Rattle.walk.specs.Leads.{Tables}
use Rattle.walk.specs.Pointers.{pointed}
use Rattle.walk.specs.Stores.{stored}
use Rattle.spaces.specs.declared.configuration.Config.{Config}
use Rattle.spaces.specs.declared.places.Place.{Place}
use Rattle.spaces.specs.declared.wishes.Wish.{Wish}
use Rattle.spaces.specs.Layout.{Layout, HasPlace, home_of, layout_of, is_frame, spare_ppn}
use Rattle.spaces.specs.Limits.{MeetsLimits}
use Rattle.spaces.specs.declared.configuration.TheConstants.{MAX_FRAMES, MAX_LIVE_FRAMES}
use Rattle.spaces.specs.Opening.{is_word}
use Rattle.spaces.specs.Holders.{Holders, unused_spare}
use Rattle.spaces.specs.Held.{IsDue, IsLayout, holders_of, word_index, memory_words}
use Rattle.spaces.specs.Edits.{Store, place_of}
use Rattle.spaces.specs.Accepted.{Accepted}
use Rattle.spaces.specs.Applied.{holders_after, memory_after, points_at}
use Rattle.spaces.specs.Tree.{IsAtHome, IsHome}
use Rattle.spaces.proofs.Applying.{holders-held, memory-held, table-there, word-there as stored-word, words-held}
use Rattle.spaces.proofs.Homes.{sum-within}
use Rattle.spaces.proofs.HomeReads.{due-accepted, points-to-spare, was-no-pointer, written-home}
use Rattle.spaces.proofs.Opened.{layout-meets}
use Rattle.spaces.proofs.Unused.{lowest-is, none-is}
use Rattle.views.specs.declared.view.Order.{Order}
use Rattle.views.specs.declared.view.View.{View}
use Rattle.views.specs.Rule.{memory_of, tables_in, Local, Seated, Tabled, UsesLowest}
use Rattle.views.specs.Turns.{edited, used_after}
use Rattle.views.specs.Edits.{edit_over}
use Rattle.views.proofs.TableWords.{wide-words, word-stored}
use Rattle.views.proofs.Keeps.{IsStore, keeps-store, walk-stays}

pub live-limits : (c : Config) → MeetsLimits MAX_LIVE_FRAMES c → MeetsLimits MAX_FRAMES c
live-limits c m = record {
  some_hart = m.some_hart;
  harts = m.harts;
  some_space = m.some_space;
  spaces = m.spaces;
  homes = m.homes;
  asids = m.asids;
  some_window = m.some_window;
  window = m.window;
  spares = m.spares;
  frames_fit = omega (arith, m.frames_fit);
  ppns_fit = m.ppns_fit;
  some_capacity = m.some_capacity;
  capacity = m.capacity;
}

pub live-layout : (c : Config) → MeetsLimits MAX_LIVE_FRAMES c → IsLayout (layout_of c)
live-layout c m = layout-meets c (live-limits c m)

pub local-home : (l : Layout) (v : View) → Local l v → IsHome l (memory_words (memory_of l v)) v.hart (holders_of (memory_of l v))
local-home l v local = local.memory.tree v.hart local.hart

-- a hart has few spare frames
pub used-few : (l : Layout) (v : View) → Local l v → v.used < 2 ^ 16
used-few l v local =
    let part = sum-within l.spares v.hart in
    let low = local.lowest in
    let fits = local.memory.layout in
    omega (arith, low.room, part, fits.frames_fit)

-- the lowest unused spare frame is the next one
module _ (l : Layout) (holders : Holders) (hart used : ℕ) (low : UsesLowest l holders hart used) where
  pub spare-is : (g : ℕ) → unused_spare l holders hart ≡ Some g → (g ≡ spare_ppn l hart + used) × (used < slice_index l.spares hart)
  spare-is g e =
      let is = (lowest-is l holders hart g).0 e in
      let none : holders (spare_ppn l hart + is.number) ≡ None = ap holders (sym is.is) ∙ is.unused in
      elim (cases_order is.number used) [
        | inl same ↦ (omega (arith, is.is, same), omega (arith, is.below, same))
        | inr apart ↦ elim apart [
          | inl less ↦ absurd (low.taken is.number less none)
          | inr more ↦ absurd (is.lowest used more (low.unused used (omega arith) (omega (arith, is.below, more))))
        ]
      ]

  pub next-spare : cond (nat_lt used (slice_index l.spares hart)) (Some (spare_ppn l hart + used)) None ≡ unused_spare l holders hart
  next-spare = elim (cases_lt used (slice_index l.spares hart)) [
    | inl less ↦
        ap (λ b. cond b (Some (spare_ppn l hart + used)) None) (lt-ltb used (slice_index l.spares hart) less)
        ∙ sym ((lowest-is l holders hart (spare_ppn l hart + used)).1 (record {
          number = used;
          below = less;
          is = refl;
          unused = low.unused used (omega arith) less;
          lowest = low.taken;
        }))
    | inr more ↦
        ap (λ b. cond b (Some (spare_ppn l hart + used)) None) (let n : nat_lt used (slice_index l.spares hart) ≡ false = grind (arith, nat_tests, more) in n)
        ∙ sym ((none-is l holders hart).1 (λ n less. low.taken n (omega (arith, more, less))))
  ]

  uses-by : (place : Place) (o : Option ℕ) → ((g : ℕ) → o ≡ Some g → unused_spare l holders hart ≡ Some g)
      → UsesLowest l (λ f. cond (points_at o f) (Some place) (holders f)) hart (cond (is_some o) (used + 1) used)
  uses-by place None spare = record { room = low.room; taken = low.taken; unused = low.unused }
  uses-by place (Some g) spare =
      let at = spare-is g (spare g refl) in
      record {
        room = omega (arith, at.1);
        taken = λ n less. elim (cases_eq used n) [
          | inl same ↦ held (spare_ppn l hart + n) (omega (arith, at.0, same))
          | inr apart ↦ subst (λ o. o ≢ None) (sym (other (spare_ppn l hart + n) (λ e. apart (omega (arith, at.0, e))))) (low.taken n (omega (arith, less, apart)))
        ];
        unused = λ n from less. other (spare_ppn l hart + n) (λ e. absurd (omega (arith, at.0, e, from))) ∙ low.unused n (omega (arith, from)) less;
      }
    where
      held : (f : ℕ) → g ≡ f → cond (g == f) (Some place) (holders f) ≢ None
      held f same e = let bad : Some place ≡ None = sym (ap (λ b. cond b (Some place) (holders f)) (eq-eqb g f same)) ∙ e in cc

      other : (f : ℕ) → (g ≡ f → ⊥) → cond (g == f) (Some place) (holders f) ≡ holders f
      other f apart = ap (λ b. cond b (Some place) (holders f)) (ne_eqb g f apart)

module _ (l : Layout) (v : View) (local : Local l v) (wish : Wish) (has : HasPlace l (place_of wish)) (store : Store) (is : edit_over l v wish ≡ Ok store) where
  due : IsDue (memory_of l v) store
  due = record { hart = v.hart; wish = wish; has = has; is = is }

  pub acc : Accepted l (memory_words (memory_of l v)) (unused_spare l (holders_of (memory_of l v)) v.hart) v.hart wish store
  acc = due-accepted l local.memory.layout (memory_words (memory_of l v)) (holders_of (memory_of l v)) local.memory.tree v.hart wish has store is

  pub frame-home : IsAtHome l v.hart store.ppn
  frame-home = written-home l local.memory.layout (memory_words (memory_of l v)) (holders_of (memory_of l v)) local.memory.tree v.hart wish has store is

  pub word-there : is_word l store.ppn store.index ≡ true
  word-there = stored-word (memory_of l v) local.memory store due

  pub no-pointer : pointed (memory_words (memory_of l v) store.ppn store.index) ≡ None
  no-pointer = was-no-pointer l local.memory.layout (memory_words (memory_of l v)) (holders_of (memory_of l v)) local.memory.tree v.hart wish has store is

  pub leads-inside : (g : ℕ) → pointed (Some store.word) ≡ Some g → is_frame l g ≡ true
  leads-inside = table-there (memory_of l v) local.memory store due

  pub words-after : (f i : ℕ) → memory_words (memory_after (memory_of l v) store) f i ≡ stored (memory_words (memory_of l v)) store.ppn store.index store.word f i
  words-after = words-held (memory_of l v) local.memory store due

  holders-are : (λ f. holders_after (holders_of (memory_of l v)) store.place store f) ≡ holders_of (memory_after (memory_of l v) store)
  holders-are = fun_ext (λ f. sym (holders-held (memory_of l v) local.memory store due f))

  alone-by : (f : ℕ) (place : Place) (b : Bool) → cond b (Some store.place) (holders_of (memory_of l v) f) ≡ Some place → home_of l place ≡ v.hart
  alone-by f place true e = let same : store.place ≡ place = cc in ap (home_of l) (sym same ∙ acc.by) ∙ sym acc.home
  alone-by f place false e = local.alone f place e

  -- the view after it
  pub edited-local : (ks : List Order) → Local l (edited l v store ks)
  edited-local ks = record {
    hart = local.hart;
    memory = memory-held (memory_of l v) local.memory store due;
    alone = λ f place e. alone-by f place (points_at (pointed (Some store.word)) f) (sym (holders-held (memory_of l v) local.memory store due f) ∙ e);
    lowest =
        subst (λ (h : Holders). UsesLowest l h v.hart (used_after v.used store)) holders-are
        (uses-by l (holders_of (memory_of l v)) v.hart v.used local.lowest store.place (pointed (Some store.word))
        (points-to-spare l local.memory.layout (memory_words (memory_of l v)) (holders_of (memory_of l v)) local.memory.tree v.hart wish has store is));
  }

-- the step
pub edit-keeps : (c : Config) (s : State ℕ View) (b : Tabled c s) (id : ℕ) (v : View) (at : get_elem? s.views id ≡ some v) (wish : Wish) (has : HasPlace (layout_of c) (place_of wish)) (store : Store)
    → edit_over (layout_of c) v wish ≡ Ok store → (ks : List Order)
    → Tabled c record { words = slice_set s.words (word_index (layout_of c) store.ppn store.index) store.word; homes = s.homes; views = slice_set s.views id (edited (layout_of c) v store ks) }
edit-keeps c s b id v at wish has store is ks =
    let t = b.each id v at in
    let home = frame-home (layout_of c) v t.local wish has store is in
    let word = word-there (layout_of c) v t.local wish has store is in
    let good : IsStore (layout_of c) (tables_in (layout_of c) s.words) v.hart store.ppn store.index store.word = record {
      home = home;
      word = word;
      was = ap pointed (t.own store.ppn store.index home) ∙ no-pointer (layout_of c) v t.local wish has store is;
      leads = leads-inside (layout_of c) v t.local wish has store is;
    } in
    let mine : Seated c (tables_in (layout_of c) (slice_set s.words (word_index (layout_of c) store.ppn store.index) store.word)) (edited (layout_of c) v store ks) = record {
      config = t.config;
      local = edited-local (layout_of c) v t.local wish has store is ks;
      own = λ f i at-home.
          word-stored (layout_of c) s.words (wide-words (layout_of c) s.words b.wide) store.ppn store.index word store.word f i
          ∙ same-stored (tables_in (layout_of c) s.words) (memory_words (memory_of (layout_of c) v)) store.ppn store.index store.word f i (t.own f i at-home)
          ∙ sym (words-after (layout_of c) v t.local wish has store is f i);
      walk = walk-stays c s b id v (edited (layout_of c) v store ks) at refl refl store.ppn store.index store.word good v.walk v.root v.reads t.walk;
    } in
    keeps-store c s b id v (edited (layout_of c) v store ks) at refl refl store.ppn store.index store.word good mine
  where
    same-cond : (d : Bool) (a x y : Option ℕ) → x ≡ y → cond d a x ≡ cond d a y
    same-cond true a x y e = refl
    same-cond false a x y e = e

    same-stored : (a d : Tables) (f i x g k : ℕ) → a g k ≡ d g k → stored a f i x g k ≡ stored d f i x g k
    same-stored a d f i x g k e = same-cond _ (Some x) (a g k) (d g k) e
