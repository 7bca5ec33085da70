-- A list of words as tables, and one of its words stored.
use Rattle.std.proofs.Common.{◌≡◌, ℕ, ◌*◌, ◌+◌, ◌<◌, ◌≤◌, cond, Bool, true, false, List, ◌++◌, Option, Some, None, length, ap, sym, ◌∙◌, refl, inl, inr, arith}
use Rattle.std.specs.Prelude.{slice_get, slice_index, slice_set, nat_le, nat_lt}
use Rattle.std.proofs.lemmas.Bool.{and_parts}
use Rattle.std.proofs.lemmas.Option.{slice_get-get_or}
use Rattle.std.proofs.Math.Path.{fun_ext}
use borrow.Author.Tests.{ltb-true, leb-true}
use Rattle.pte.specs.declared.address.TheConstants.{TABLE_LENGTH}
use Rattle.walk.specs.Leads.{Tables}
use Rattle.walk.specs.Stores.{stored}
use Rattle.spaces.specs.declared.places.Place.{Place}
use Rattle.spaces.specs.Layout.{Layout, is_frame, frame_count}
use Rattle.spaces.specs.Opening.{is_word}
use Rattle.spaces.specs.Held.{word_index, memory_words}
use Rattle.spaces.proofs.Lists.{slice_get-front, slice_get-set_same, slice_get-set_other}
use Rattle.spaces.proofs.Stored.{is-word, stored-here, stored-there}

pub record InMemory (l : Layout) (f i : ℕ) : Type 0 where
  pub from : l.base ≤ f
  pub to : f < l.base + frame_count l
  pub index : i < TABLE_LENGTH

pub in-memory : (l : Layout) (f i : ℕ) → is_word l f i ≡ true → InMemory l f i
in-memory l f i h =
    let parts = and_parts (is_frame l f) (nat_lt i TABLE_LENGTH) h in
    let frame = and_parts (nat_le l.base f) (nat_lt f (l.base + frame_count l)) parts.0 in
    record { from = leb-true l.base f frame.0; to = ltb-true f (l.base + frame_count l) frame.1; index = ltb-true i TABLE_LENGTH parts.1 }

pub ruleset in_memory = (in-memory)

-- the words of the frames come first in the list, and more words may follow them
abbrev pub listed : Layout → List ℕ → List (Option Place) → Tables
listed l ws holders = memory_words (record { layout = l; words = ws; holders = holders })

-- the holders say nothing of the words
pub list-same : (l : Layout) (ws : List ℕ) (holders holders' : List (Option Place)) → listed l ws holders ≡ listed l ws holders'
unfolding memory_words
list-same l ws holders holders' = refl

module _ (l : Layout) (ws : List ℕ) (holders : List (Option Place)) (wide : frame_count l * TABLE_LENGTH ≤ length ws) (f i : ℕ) (is : is_word l f i ≡ true) where
  index-there : word_index l f i < length ws
  index-there = let w = in-memory l f i is in omega (arith, wide, w.from, w.to, w.index)

  pub list-read : listed l ws holders f i ≡ Some (slice_index ws (word_index l f i))
  unfolding memory_words
  list-read = ap (λ b. cond b (slice_get ws (word_index l f i)) None) is ∙ slice_get-get_or ws (word_index l f i) 0 index-there

  module _ (x : ℕ) where
    here : listed l (slice_set ws (word_index l f i) x) holders f i ≡ Some x
    unfolding memory_words
    here = ap (λ b. cond b (slice_get (slice_set ws (word_index l f i) x) (word_index l f i)) None) is ∙ slice_get-set_same ws (word_index l f i) x index-there

    apart-index : (g k : ℕ) → is_word l g k ≡ true → (f ≡ g → i ≡ k → ⊥) → word_index l f i ≡ word_index l g k → ⊥
    apart-index g k other apart e =
        let a = in-memory l f i is in
        let b = in-memory l g k other in
        let same : f ≡ g = omega (arith, a.from, a.index, b.from, b.index) in
        apart same (omega (arith, a.from, a.index, b.from, b.index))

    there : (g k : ℕ) → (f ≡ g → i ≡ k → ⊥) → listed l (slice_set ws (word_index l f i) x) holders g k ≡ listed l ws holders g k
    unfolding memory_words
    there g k apart = by_test (is_word l g k) refl
      where
        by_test : (b : Bool) → is_word l g k ≡ b → cond b (slice_get (slice_set ws (word_index l f i) x) (word_index l g k)) None ≡ cond b (slice_get ws (word_index l g k)) None
        by_test true other = slice_get-set_other ws (word_index l f i) (word_index l g k) x (apart-index g k other apart)
        by_test false other = refl

    -- a word stored in the list is stored in its tables
    pub list-stored : (g k : ℕ) → listed l (slice_set ws (word_index l f i) x) holders g k ≡ stored (listed l ws holders) f i x g k
    list-stored g k = elim (is-word f i g k) [
      | inl same ↦
          ap (λ n. listed l (slice_set ws (word_index l f i) x) holders n k) (sym same.0) ∙ ap (listed l (slice_set ws (word_index l f i) x) holders f) (sym same.1)
          ∙ here ∙ sym (stored-here (listed l ws holders) f i x g k same.0 same.1)
      | inr apart ↦ there g k apart ∙ sym (stored-there (listed l ws holders) f i x g k apart)
    ]

    pub list-stored-all : listed l (slice_set ws (word_index l f i) x) holders ≡ stored (listed l ws holders) f i x
    list-stored-all = fun_ext (λ g. fun_ext (λ k. list-stored g k))

-- words that follow those of the frames are of no table
pub list-front : (l : Layout) (ws zs : List ℕ) (holders : List (Option Place)) → length ws ≡ frame_count l * TABLE_LENGTH → (f i : ℕ) → listed l (ws ++ zs) holders f i ≡ listed l ws holders f i
unfolding memory_words
list-front l ws zs holders wide f i = by_test (is_word l f i) refl
  where
    by_test : (b : Bool) → is_word l f i ≡ b → cond b (slice_get (ws ++ zs) (word_index l f i)) None ≡ cond b (slice_get ws (word_index l f i)) None
    by_test true is = slice_get-front ws zs (word_index l f i) (index-there l ws holders (omega (arith, wide)) f i is)
    by_test false is = refl

-- and a store to one of them changes no table
pub list-behind : (l : Layout) (ws : List ℕ) (holders : List (Option Place)) (k x : ℕ) → frame_count l * TABLE_LENGTH ≤ k → (f i : ℕ) → listed l (slice_set ws k x) holders f i ≡ listed l ws holders f i
unfolding memory_words
list-behind l ws holders k x behind f i = by_test (is_word l f i) refl
  where
    by_test : (b : Bool) → is_word l f i ≡ b → cond b (slice_get (slice_set ws k x) (word_index l f i)) None ≡ cond b (slice_get ws (word_index l f i)) None
    by_test true is = slice_get-set_other ws k (word_index l f i) x (λ e. let w = in-memory l f i is in absurd (omega (arith, behind, w.from, w.to, w.index)))
    by_test false is = refl
