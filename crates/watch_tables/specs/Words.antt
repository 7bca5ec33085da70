-- The words of memory that a trace has stored, as page tables.
use Rattle.std.specs.Prelude.{ℕ, Bool, ◌≡◌, ◌≢◌, ◌+◌, ◌*◌, ◌&&◌, nat_lt, if◌then◌else◌, Option, Some}
use Rattle.std.specs.Prelude.{List, IsTrue}
use Rattle.std.specs.List.{Contains}
use Rattle.std.specs.Option.{unwrap_or}
use Rattle.pte.specs.declared.address.TheConstants.{TABLE_LENGTH}
use Rattle.walk.specs.Leads.{Tables}
use Rattle.walk.specs.Maps.{page_number}
use Rattle.watch.specs.declared.trace.Frames.{Frames}
use Rattle.watch.specs.Trace.{index_of, is_among}
use Rattle.watch_tables.specs.declared.tables.PageTables.{PageTables}
use Rattle.watch_tables.specs.declared.tables.TheConstants.{FRAME_LIMIT}
use Rattle.watch_tables.specs.FrameTables.{in_frames}
use Rattle.watch_tables.specs.Stored.{since_of, value_of}

-- the number of a word: its physical address, in words of 8 bytes
abbrev pub word_number : ℕ → ℕ → ℕ
word_number ppn index = ppn * TABLE_LENGTH + index

-- the frame has physical addresses of 64 bits, and a word at this index
abbrev pub is_word : ℕ → ℕ → Bool
is_word ppn index = nat_lt ppn FRAME_LIMIT && nat_lt index TABLE_LENGTH

-- memory is 0 but for the words that have a value by their number
abbrev pub memory_of : (ℕ → Option ℕ) → Tables
memory_of value ppn index =
    Some (if is_word ppn index then unwrap_or (value (word_number ppn index)) 0 else 0)

-- the words of memory
abbrev pub words : PageTables → Tables
words tables = memory_of (λ number. value_of (in_frames tables.frames number))

-- how many records had been when the word was stored, and 0 for a word that is 0
abbrev pub since : PageTables → ℕ → ℕ → ℕ
since tables ppn index =
    if is_word ppn index then since_of (in_frames tables.frames (word_number ppn index)) else 0

-- some address is that of this word
pub record HasAddress (addresses : List ℕ) (table index : ℕ) : Type 0 where
  pub address : ℕ
  pub among : Contains addresses address
  pub frame : page_number address ≡ table
  pub place : index_of address ≡ index

-- the addresses are those of the words in the frames that are not 0
pub record AreFilled (words : Tables) (frames : Frames) (addresses : List ℕ) : Type 0 where
  pub sound : (address : ℕ) → Contains addresses address
      → IsTrue (is_among frames (page_number address))
      × (words (page_number address) (index_of address) ≢ Some 0)
  pub each : (table index : ℕ) → IsTrue (is_among frames table) → words table index ≢ Some 0
      → HasAddress addresses table index
