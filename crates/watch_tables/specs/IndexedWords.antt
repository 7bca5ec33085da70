-- Words with their indexes, and where each stands.
use Rattle.std.specs.Prelude.{ℕ, ◌+◌, ◌<◌, ◌≡◌, ◌≢◌, ◌==◌, ◌↔◌, if◌then◌else◌, List, [], ◌∷◌, Option, None, Some, length, slice_get}
use Rattle.std.specs.Option.{option_map}
use Rattle.pte.specs.declared.address.TheConstants.{TABLE_LENGTH}
use Rattle.watch_tables.specs.declared.frame.IndexedWord.{IndexedWord}
use Rattle.watch_tables.specs.declared.frame.StoredWord.{StoredWord}

-- the index of the word at a place
abbrev pub index_at : List IndexedWord → ℕ → Option ℕ
index_at words place = option_map (λ (w : IndexedWord). w.index) (slice_get words place)

-- what is stored at an index: the first word with it
abbrev pub stored_at : List IndexedWord → ℕ → Option StoredWord
stored_at [] index = None
stored_at (w ∷ words) index = if w.index == index then Some w.stored else stored_at words index

-- two places have two indexes, and each index is one of a table
pub record AreIndexes (indexes : ℕ → Option ℕ) : Type 0 where
  pub apart : (p q index : ℕ) → indexes p ≡ Some index → indexes q ≡ Some index → p ≡ q
  pub small : (p index : ℕ) → indexes p ≡ Some index → index < TABLE_LENGTH

-- each index of a table has one more than its place, or 0
pub record ArePlaces (indexes : ℕ → Option ℕ) (places : List ℕ) : Type 0 where
  pub whole : length places ≡ TABLE_LENGTH
  pub each : (index p : ℕ) → (slice_get places index ≡ Some (p + 1)) ↔ (indexes p ≡ Some index)

-- the same, unless no places are kept
abbrev pub ArePlacesIfKept : (ℕ → Option ℕ) → List ℕ → Type 0
ArePlacesIfKept indexes places = 0 < length places → ArePlaces indexes places

-- the word at a place is gone, and the last one has come to it
pub record IsWithout (words : List IndexedWord) (place : ℕ) (left : List IndexedWord) : Type 0 where
  pub fewer : length left + 1 ≡ length words
  pub rest : (p : ℕ) → p ≢ place → p < length left → slice_get left p ≡ slice_get words p
  pub moved : place < length left → slice_get left place ≡ slice_get words (length left)
