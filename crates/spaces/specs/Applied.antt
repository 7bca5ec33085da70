-- What an edit leaves.
use Rattle.std.specs.Prelude.{ℕ, Bool, false, ◌-◌, ◌*◌, ◌/◌, ◌==◌, if◌then◌else◌, List, Option, Some, None, slice_set}
use Rattle.pte.specs.declared.flags.PteFlags.{PteFlags}
use Rattle.walk.specs.Leads.{Tables}
use Rattle.walk.specs.Pointers.{pointed}
use Rattle.walk.specs.Stores.{stored}
use Rattle.spaces.specs.Edits.{Store}
use Rattle.spaces.specs.declared.places.Place.{Place}
use Rattle.spaces.specs.Holders.{Holders}
use Rattle.spaces.specs.Held.{Held, word_index}

-- the words after a store
abbrev pub words_after_store : Tables → Store → Tables
words_after_store words store = stored words store.ppn store.index store.word

-- a pointer leads to this PPN
abbrev pub points_at : Option ℕ → ℕ → Bool
points_at None ppn = false
points_at (Some table) ppn = table == ppn

-- a new table is in use for the place of the edit
abbrev pub holders_after : Holders → Place → Store → Holders
holders_after holders place store ppn =
    if points_at (pointed (Some store.word)) ppn then Some place else holders ppn

-- the same frame by frame, from this PPN on: a new table is in use for the place
abbrev pub list_after : ℕ → List (Option Place) → Place → Option ℕ → List (Option Place)
list_after base holders place None = holders
list_after base holders place (Some table) = slice_set holders (table - base) (Some place)

-- the memory after a store
abbrev pub memory_after : Held → Store → Held
memory_after m store = record {
  layout = m.layout;
  words = slice_set m.words (word_index m.layout store.ppn store.index) store.word;
  holders = list_after m.layout.base m.holders store.place (pointed (Some store.word));
}

-- the flags that an entry has: bits 7 to 1
abbrev pub seven : PteFlags → PteFlags
seven flags = record { 0 = flags.0 / 2 * 2 }
