-- The shared words as tables, and one of them stored.
use Rattle.std.proofs.Common.{◌≡◌, ℕ, ◌≤◌, true, List, [], Some, length, ◌∙◌, sym, refl, arith}
use Rattle.std.specs.Prelude.{slice_index, slice_set}
use Rattle.walk.specs.Stores.{AgreeBut, stored}
use Rattle.spaces.specs.Layout.{Layout}
use Rattle.spaces.specs.Opening.{is_word}
use Rattle.spaces.specs.Held.{word_index, memory_words}
use Rattle.spaces.proofs.Stored.{stored-here, stored-there}
use Rattle.spaces.proofs.WordLists.{list-read, list-same, list-stored}
use Rattle.views.specs.declared.view.View.{View}
use Rattle.views.specs.Rule.{size, board_size, tables_in, memory_of}

-- the words of a view are those of its memory
pub held-words : (l : Layout) (v : View) → tables_in l v.words ≡ memory_words (memory_of l v)
held-words l v = list-same l v.words [] v.holders

pub wide-words : (l : Layout) (ws : List ℕ) → board_size l ≤ length ws → size l ≤ length ws
wide-words l ws wide = omega (arith, wide)

module _ (l : Layout) (ws : List ℕ) (wide : size l ≤ length ws) (f i : ℕ) (is : is_word l f i ≡ true) where
  pub word-read : tables_in l ws f i ≡ Some (slice_index ws (word_index l f i))
  word-read = list-read l ws [] wide f i is

  module _ (x : ℕ) where
    pub word-stored : (g k : ℕ) → tables_in l (slice_set ws (word_index l f i) x) g k ≡ stored (tables_in l ws) f i x g k
    word-stored = list-stored l ws [] wide f i is x

    pub word-here : tables_in l (slice_set ws (word_index l f i) x) f i ≡ Some x
    word-here = word-stored f i ∙ stored-here (tables_in l ws) f i x f i refl refl

    pub word-there : (g k : ℕ) → ((g ≡ f) × (k ≡ i) → ⊥) → tables_in l (slice_set ws (word_index l f i) x) g k ≡ tables_in l ws g k
    word-there g k apart = word-stored g k ∙ stored-there (tables_in l ws) f i x g k (λ p q. apart (sym p, sym q))

    pub agree : AgreeBut (tables_in l ws) (tables_in l (slice_set ws (word_index l f i) x)) f i
    agree = record { elsewhere = word-there }
