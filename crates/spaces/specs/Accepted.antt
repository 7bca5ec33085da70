-- What an accepted edit writes: where the word stands, what it was, and what it becomes.
use Rattle.std.specs.Prelude.{ℕ, ◌≡◌, ◌-◌, ◌<◌, ◌≤◌, ◌%◌, ◌^◌, false, Option, Some}
use Rattle.pte.specs.declared.flags.PteFlags.{PteFlags}
use Rattle.pte.specs.declared.entry.Kind.TheVariants.{Leaf}
use Rattle.pte.specs.Address.{Span, level_of, pages_of, vpn_of}
use Rattle.pte.specs.Entry.{kind_of, is_no_leaf, leaf_word, table_word}
use Rattle.pte.specs.declared.entry.TheConstants.{PPN_BITS}
use Rattle.walk.specs.Leads.{Tables}
use Rattle.spaces.specs.declared.places.Place.{Place}
use Rattle.spaces.specs.declared.wishes.Wish.{Wish}
use Rattle.spaces.specs.declared.wishes.Wish.TheVariants.{Map, Unmap, Protect}
use Rattle.spaces.specs.Layout.{Layout, home_of}
use Rattle.spaces.specs.Edits.{Store, place_of, page_of, is_kernel, is_wrong_global}
use Rattle.spaces.specs.Tree.{start_level, IsIn, table_on}

-- flags of a leaf of the place
pub record IsFlags (place : Place) (flags : PteFlags) : Type 0 where
  pub leaf : is_no_leaf flags.0 ≡ false
  pub global : is_wrong_global place flags ≡ false
  pub byte : flags.0 < 2 ^ 8

-- the new word, by the level of the table and the old word: a pointer in place of 0 above the
-- page's level, a leaf in place of 0, 0 in place of a leaf, or a leaf with the same PPN and other
-- flags
pub data Writes (spare : Option ℕ) (level old : ℕ) : Wish → ℕ → Type 0 where
  adds_table : (place : Place) (page : Span) (ppn : ℕ) (flags : PteFlags) (frame : ℕ)
      → level_of page.size < level → old ≡ 0 → spare ≡ Some frame
      → Writes spare level old (Map place page ppn flags) (table_word frame (is_kernel place))
  adds_leaf : (place : Place) (page : Span) (ppn : ℕ) (flags : PteFlags)
      → level ≡ level_of page.size → old ≡ 0
      → IsFlags place flags → ppn < 2 ^ PPN_BITS → ppn % pages_of page.size ≡ 0
      → Writes spare level old (Map place page ppn flags) (leaf_word ppn flags)
  removes_leaf : (place : Place) (page : Span) (q : ℕ) (f : PteFlags) → level ≡ level_of page.size
      → kind_of old ≡ Leaf q f
      → Writes spare level old (Unmap place page) 0
  changes_leaf : (place : Place) (page : Span) (flags : PteFlags) (q : ℕ) (f : PteFlags)
      → level ≡ level_of page.size → kind_of old ≡ Leaf q f
      → IsFlags place flags
      → Writes spare level old (Protect place page flags) (leaf_word q flags)

-- the word stands on the page's path in its place, at the home
pub record Accepted (l : Layout) (words : Tables) (spare : Option ℕ) (hart : ℕ) (wish : Wish)
    (store : Store) : Type 0 where
  pub home : hart ≡ home_of l (place_of wish)
  pub within : IsIn l (place_of wish) (page_of wish).base
  pub by : store.place ≡ place_of wish
  pub depth : ℕ
  pub deep : depth ≤ start_level l (place_of wish)
  pub on : table_on l words (place_of wish) (page_of wish).base depth ≡ Some store.ppn
  pub index : store.index ≡ vpn_of (page_of wish).base (start_level l (place_of wish) - depth)
  pub old : ℕ
  pub word : words store.ppn store.index ≡ Some old
  pub writes : Writes spare (start_level l (place_of wish) - depth) old wish store.word
