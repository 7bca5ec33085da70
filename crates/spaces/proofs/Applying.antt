-- What memory is after a store that is due.
use Rattle.std.proofs.Common.{◌≡◌, ℕ, ◌+◌, ◌-◌, ◌*◌, ◌^◌, ◌<◌, ◌≤◌, cond, eqb, Bool, true, false, List, Option, Some, None, length, ap, sym, ◌∙◌, subst, refl, inl, inr, arith, length-set, get_or}
use Rattle.std.specs.Prelude.{slice_set, slice_get, nat_le, nat_lt}
use Rattle.std.proofs.lemmas.Bool.{and_parts, cases_eq, eq-eqb, ne_eqb}
use borrow.Author.Tests.{ltb-true, leb-true}
use Rattle.pte.specs.declared.address.TheConstants.{TABLE_LENGTH}
use Rattle.spaces.specs.Layout.{home_of, is_frame, frame_count}
use Rattle.spaces.specs.Opening.{is_word}
use Rattle.spaces.specs.Held.{Held, IsMemory, IsDue, spare_of, held_at, holders_of, word_index, memory_words}
use Rattle.spaces.specs.Holders.{Holders, unused_spare}
use Rattle.spaces.specs.declared.places.Place.{Place}
use Rattle.walk.specs.Leads.{Tables}
use Rattle.std.proofs.Math.Path.{fun_ext}
use Rattle.spaces.specs.Edits.{Store, place_of, page_of}
use Rattle.spaces.specs.Tree.{start_level, of_spare, IsTree}
use Rattle.walk.specs.Pointers.{pointed}
use Rattle.spaces.specs.Accepted.{Accepted}
use Rattle.spaces.specs.Applied.{words_after_store, points_at, holders_after, list_after, memory_after}
use Rattle.spaces.proofs.Lists.{slice_get-set_same, slice_get-set_other}
use Rattle.spaces.proofs.Paths.{vpn-below, some-same}
use Rattle.spaces.proofs.WordLists.{InMemory, in-memory, list-same, list-stored}
use Rattle.spaces.proofs.Accepting.{accepted}
use Rattle.spaces.proofs.Keeping.{keeps-tree, there, leaf-or-pointer}
use Rattle.std.proofs.lemmas.Option.{slice_get-get_or}
use Rattle.spaces.proofs.OpeningTree.{word-is, frame-is}

module _ (m : Held) (held : IsMemory m) (store : Store) (due : IsDue m store) where
  pub at-home : Accepted m.layout (memory_words m) (unused_spare m.layout (holders_of m) (home_of m.layout (place_of due.wish))) (home_of m.layout (place_of due.wish)) due.wish store
  at-home =
      let acc = accepted m.layout held.layout (memory_words m) (holders_of m) held.tree (spare_of m due.hart) due.hart due.wish store due.has due.is in
      subst (λ h. Accepted m.layout (memory_words m) (spare_of m h) h due.wish store) acc.home acc

  pub word-there : is_word m.layout store.ppn store.index ≡ true
  word-there =
      let on = there m.layout held.layout (memory_words m) (holders_of m) held.tree due.wish due.has store at-home in
      let vpn = vpn-below (page_of due.wish).base (start_level m.layout (place_of due.wish) - at-home.depth) in
      word-is m.layout (home_of m.layout (place_of due.wish)) store.ppn store.index on.home (omega (arith, at-home.index))

  pub place-there : InMemory m.layout store.ppn store.index
  place-there = in-memory m.layout store.ppn store.index word-there

  pub index-there : word_index m.layout store.ppn store.index < length m.words
  index-there = omega (arith, held.words, place-there.from, place-there.to, place-there.index)

  tree-after : IsTree m.layout (words_after_store (memory_words m) store) (holders_after (holders_of m) (place_of due.wish) store)
  tree-after = keeps-tree m.layout held.layout (memory_words m) (holders_of m) held.tree due.wish due.has store at-home

  pub words-held : (f i : ℕ) → memory_words (memory_after m store) f i ≡ words_after_store (memory_words m) store f i
  words-held f i =
      ap (λ (t : Tables). t f i) (list-same m.layout (slice_set m.words (word_index m.layout store.ppn store.index) store.word) (list_after m.layout.base m.holders store.place (pointed (Some store.word))) m.holders)
      ∙ list-stored m.layout m.words m.holders (omega (arith, held.words)) store.ppn store.index word-there store.word f i

  -- the new table is a frame that exists
  pub table-there : (t : ℕ) → pointed (Some store.word) ≡ Some t → is_frame m.layout t ≡ true
  table-there t e = elim (leaf-or-pointer m.layout held.layout _ _ _ at-home.old due.wish store.word at-home.writes) [
    | inl leaf ↦ absurd (let bad : None ≡ Some t = sym leaf.now ∙ e in cc)
    | inr p ↦
        let same : p.frame ≡ t = some-same _ _ (sym p.now ∙ e) in
        ap (is_frame m.layout) (sym same) ∙ frame-is m.layout (home_of m.layout (place_of due.wish)) p.frame (of_spare p.room.number p.room.below p.room.is)
  ]

  pub frame-there : (t : ℕ) → is_frame m.layout t ≡ true → (m.layout.base ≤ t) × (t < m.layout.base + frame_count m.layout)
  frame-there t e =
      let p = and_parts (nat_le m.layout.base t) (nat_lt t (m.layout.base + frame_count m.layout)) e in
      (leb-true m.layout.base t p.0, ltb-true t (m.layout.base + frame_count m.layout) p.1)

  pub table-index : (t : ℕ) → pointed (Some store.word) ≡ Some t → (m.layout.base ≤ t) × (t - m.layout.base < length m.holders)
  table-index t e = let r = frame-there t (table-there t e) in (r.0, omega (arith, r.0, r.1, held.holders))

  holders-by : (f : ℕ) (o : Option ℕ) → ((t : ℕ) → o ≡ Some t → is_frame m.layout t ≡ true)
      → cond (is_frame m.layout f) (held_at (slice_get (list_after m.layout.base m.holders store.place o) (f - m.layout.base))) None ≡ cond (points_at o f) (Some store.place) (holders_of m f)
  holders-by f None there = refl
  holders-by f (Some t) there = elim (cases_eq t f) [
    | inl same ↦
        let frame = there t refl in
        let range = frame-there t frame in
        let index : t - m.layout.base < length m.holders = omega (arith, range.0, range.1, held.holders) in
        subst (λ (x : ℕ). cond (is_frame m.layout x) (held_at (slice_get (slice_set m.holders (t - m.layout.base) (Some store.place)) (x - m.layout.base))) None ≡ cond (eqb t x) (Some store.place) (holders_of m x)) same
        (ap (λ b. cond b (held_at (slice_get (slice_set m.holders (t - m.layout.base) (Some store.place)) (t - m.layout.base))) None) frame
        ∙ ap held_at (slice_get-set_same m.holders (t - m.layout.base) (Some store.place) index)
        ∙ sym (ap (λ b. cond b (Some store.place) (holders_of m t)) (eq-eqb t t refl)))
    | inr apart ↦ by_frame (is_frame m.layout f) refl apart ∙ sym (ap (λ b. cond b (Some store.place) (holders_of m f)) (ne_eqb t f apart))
  ]
    where
      by_frame : (b : Bool) → is_frame m.layout f ≡ b → (t ≡ f → ⊥)
          → cond b (held_at (slice_get (slice_set m.holders (t - m.layout.base) (Some store.place)) (f - m.layout.base))) None ≡ cond b (held_at (slice_get m.holders (f - m.layout.base))) None
      by_frame true is apart =
          let a = frame-there t (there t refl) in
          let b = frame-there f is in
          ap held_at (slice_get-set_other m.holders (t - m.layout.base) (f - m.layout.base) (Some store.place) (λ e. apart (omega (arith, a.0, b.0, e))))
      by_frame false is apart = refl

  pub holders-held : (f : ℕ) → holders_of (memory_after m store) f ≡ holders_after (holders_of m) store.place store f
  holders-held f = holders-by f (pointed (Some store.word)) table-there

  length-held : (o : Option ℕ) → length (list_after m.layout.base m.holders store.place o) ≡ length m.holders
  length-held None = refl
  length-held (Some t) = length-set m.holders (t - m.layout.base) (Some store.place)

  pub memory-held : IsMemory (memory_after m store)
  memory-held = record {
    layout = held.layout;
    words = length-set m.words (word_index m.layout store.ppn store.index) store.word ∙ held.words;
    holders = length-held (pointed (Some store.word)) ∙ held.holders;
    tree =
        subst (λ (x : Holders). IsTree m.layout (memory_words (memory_after m store)) x) (fun_ext (λ f. ap (λ p. holders_after (holders_of m) p store f) (sym at-home.by) ∙ sym (holders-held f)))
        (subst (λ (x : Tables). IsTree m.layout x (holders_after (holders_of m) (place_of due.wish) store)) (fun_ext (λ f. fun_ext (λ i. sym (words-held f i)))) tree-after);
  }

-- the same, put together field by field
pub held-by : (m : Held) (store : Store) (at : ℕ) (holders : List (Option Place)) → at ≡ word_index m.layout store.ppn store.index
    → holders ≡ list_after m.layout.base m.holders store.place (pointed (Some store.word))
    → record { layout = m.layout; words = slice_set m.words at store.word; holders = holders } ≡ memory_after m store
held-by m store at holders e u =
    ap (λ k. let x : Held = record { layout = m.layout; words = slice_set m.words k store.word; holders = holders } in x) e
    ∙ ap (λ k. let x : Held = record { layout = m.layout; words = slice_set m.words (word_index m.layout store.ppn store.index) store.word; holders = k } in x) u

-- all of it, where the memory is seen as another value
pub record Facts (m now : Held) (store : Store) : Type 0 where
  pub place : InMemory m.layout store.ppn store.index
  pub index : word_index m.layout store.ppn store.index < length m.words
  pub table : (t : ℕ) → pointed (Some store.word) ≡ Some t → (m.layout.base ≤ t) × (t - m.layout.base < length m.holders)
  pub memory : IsMemory (memory_after m store)
  pub words : (f i : ℕ) → memory_words (memory_after m store) f i ≡ words_after_store (memory_words now) store f i
  pub holders : (f : ℕ) → holders_of (memory_after m store) f ≡ holders_after (holders_of now) store.place store f

pub facts-of : (m now : Held) (store : Store) → m ≡ now → IsMemory m → IsDue now store → Facts m now store
facts-of m now store is held due =
    let here : IsDue m store = subst (λ x. IsDue x store) (sym is) due in
    record {
      place = place-there m held store here;
      index = index-there m held store here;
      table = table-index m held store here;
      memory = memory-held m held store here;
      words = λ f i. words-held m held store here f i ∙ ap (λ x. words_after_store (memory_words x) store f i) is;
      holders = λ f. holders-held m held store here f ∙ ap (λ x. holders_after (holders_of x) store.place store f) is;
    }

pub at-index : (base ppn index a b : ℕ) → a ≡ 512 → b ≡ index → (ppn - base) * a + b ≡ (ppn - base) * TABLE_LENGTH + index
at-index base ppn index a b e f = ap (λ n. (ppn - base) * n + b) e ∙ ap (λ n. (ppn - base) * TABLE_LENGTH + n) f

pub product-bound : (d a : ℕ) → a ≡ 512 → d < 512 → d * a < 2 ^ 64
product-bound d a e less = subst (λ n. d * n < 2 ^ 64) (sym e) (omega arith)

pub sum-bound : (d a b : ℕ) → a ≡ 512 → b < 512 → d < 512 → d * a + b < 2 ^ 64
sum-bound d a b e below less = subst (λ n. d * n + b < 2 ^ 64) (sym e) (omega arith)

pub held-pointer : (base : ℕ) (holders list : List (Option Place)) (place : Place) (word t : ℕ) (o : Option ℕ) → o ≡ pointed (Some word) → o ≡ Some t
    → list ≡ slice_set holders (t - base) (Some place) → list ≡ list_after base holders place (pointed (Some word))
held-pointer base holders list place word t o is some e = e ∙ ap (list_after base holders place) (sym some ∙ is)

pub held-leaf : (base : ℕ) (holders : List (Option Place)) (place : Place) (word : ℕ) (o : Option ℕ) → o ≡ pointed (Some word) → o ≡ None
    → holders ≡ list_after base holders place (pointed (Some word))
held-leaf base holders place word o is none = ap (list_after base holders place) (sym none ∙ is)

-- the word of a list that stands at its place
pub word-held : (m now : Held) (ppn index at n k : ℕ) (word d : ℕ) → IsMemory m → m ≡ now → is_word now.layout ppn index ≡ true → n ≡ 512 → at ≡ (ppn - m.layout.base) * n + k → k ≡ index
    → word ≡ get_or m.words at d → memory_words now ppn index ≡ Some word
unfolding memory_words
word-held m now ppn index at n k word d held e is n-is at-is k-is got =
    let place : at ≡ word_index m.layout ppn index = at-is ∙ ap (λ x. (ppn - m.layout.base) * x + k) n-is ∙ ap (λ x. (ppn - m.layout.base) * 512 + x) k-is in
    let here = in-memory m.layout ppn index (ap (λ (x : Held). is_word x.layout ppn index) e ∙ is) in
    let less : at < length m.words = omega (arith, place, here.from, here.to, here.index, held.words) in
    ap (λ b. cond b (slice_get now.words (word_index now.layout ppn index)) None) is
    ∙ sym (ap (λ (x : Held). slice_get x.words (word_index x.layout ppn index)) e) ∙ sym (ap (slice_get m.words) place)
    ∙ slice_get-get_or m.words at d less ∙ sym (ap Some got)
