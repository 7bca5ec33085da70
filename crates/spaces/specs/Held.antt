-- What table memory holds: each word, and for which place each spare frame is in use.
use Rattle.std.specs.Prelude.{ℕ, ◌≡◌, ◌+◌, ◌-◌, ◌*◌, ◌/◌, ◌%◌, ◌<◌, ◌≤◌, ◌^◌, Bool, ◌==◌, ◌&&◌, ◌||◌, nat_lt, List, length, slice_get, if◌then◌else◌, Option, Some, None, Ok, All}
use Rattle.pte.specs.declared.address.TheConstants.{TABLE_LENGTH}
use Rattle.pte.specs.declared.entry.TheConstants.{PPN_BITS}
use Rattle.walk.specs.Leads.{Tables}
use Rattle.spaces.specs.declared.wishes.Wish.{Wish}
use Rattle.spaces.specs.declared.places.Place.{Place}
use Rattle.spaces.specs.declared.places.Place.TheVariants.{Space}
use Rattle.spaces.specs.Layout.{Layout, HasPlace, frame_count, is_frame, user_slots}
use Rattle.spaces.specs.Holders.{Holders, is_held_for, unused_spare}
use Rattle.pte.specs.declared.TheConstants.{MAX_HARTS}
use Rattle.spaces.specs.declared.configuration.TheConstants.{MAX_FRAMES, MAX_SPACES, MAX_WINDOW}
use Rattle.spaces.specs.Opening.{is_word}
use Rattle.spaces.specs.Tree.{IsTree}
use Rattle.spaces.specs.Edits.{Store, place_of, edit_of}

-- the words frame by frame, and for which place each frame is in use as a spare one
pub record Held : Type 0 where
  pub layout : Layout
  pub words : List ℕ
  pub holders : List (Option Place)

-- where the word of a frame stands in the list
abbrev pub word_index : Layout → ℕ → ℕ → ℕ
word_index l ppn i = (ppn - l.base) * TABLE_LENGTH + i

-- the words as tables
unfoldable pub memory_words : Held → Tables
memory_words m ppn i =
    if is_word m.layout ppn i then slice_get m.words (word_index m.layout ppn i) else None

-- the place that each frame is in use for, by its place in the list
abbrev pub held_at : Option (Option Place) → Option Place
held_at None = None
held_at (Some holder) = holder

abbrev pub holders_of : Held → Holders
holders_of m ppn =
    if is_frame m.layout ppn then held_at (slice_get m.holders (ppn - m.layout.base)) else None

-- whether word n of the list is one of a space alone, by the holders in the list and the number of
-- the root's frame
abbrev pub is_own_at : List (Option Place) → ℕ → ℕ → ℕ → Bool
is_own_at holders root space n =
    (n / TABLE_LENGTH == root && nat_lt (n % TABLE_LENGTH) user_slots)
    || is_held_for (held_at (slice_get holders (n / TABLE_LENGTH))) (Space space)

-- the lowest spare frame of a hart that is not in use
abbrev pub spare_of : Held → ℕ → Option ℕ
spare_of m h = unused_spare m.layout (holders_of m) h

-- the layout is within the limits
pub record IsLayout (l : Layout) : Type 0 where
  pub some_space : 1 ≤ length l.homes
  pub spaces : length l.homes ≤ MAX_SPACES
  pub harts : length l.spares ≤ MAX_HARTS
  pub homes : All (λ home. home < length l.spares) l.homes
  pub some_window : 1 ≤ l.window
  pub window : l.window ≤ MAX_WINDOW
  pub frames_fit : frame_count l ≤ MAX_FRAMES
  pub ppns_fit : l.base + frame_count l ≤ 2 ^ PPN_BITS

-- what every memory keeps
pub record IsMemory (m : Held) : Type 0 where
  pub layout : IsLayout m.layout
  pub words : length m.words ≡ frame_count m.layout * TABLE_LENGTH
  pub holders : length m.holders ≡ frame_count m.layout
  pub tree : IsTree m.layout (memory_words m) (holders_of m)

-- the store is what some wish takes of this memory
pub record IsDue (m : Held) (store : Store) : Type 0 where
  pub hart : ℕ
  pub wish : Wish
  pub has : HasPlace m.layout (place_of wish)
  pub is : edit_of m.layout (memory_words m) (spare_of m hart) hart wish ≡ Ok store
