-- A leaf that an edit takes away or gives other flags, and what entries hold of it.
use Rattle.std.specs.Prelude.{ℕ, true, ◌≡◌, ◌≢◌, ◌+◌, ◌%◌, nat_le, Option, Some, None, Ok, if◌then◌else◌}
use Rattle.pte.specs.declared.flags.PteFlags.{PteFlags}
use Rattle.pte.specs.declared.entry.Kind.TheVariants.{Leaf}
use Rattle.pte.specs.Address.{Span, Overlap, level_of, pages_of}
use Rattle.pte.specs.Entry.{kind_of}
use Rattle.walk.specs.Leads.{Tables}
use Rattle.walk.specs.Maps.{page_number, LiesIn}
use Rattle.spaces.specs.declared.places.Place.{Place}
use Rattle.spaces.specs.declared.wishes.Wish.{Wish}
use Rattle.spaces.specs.declared.wishes.Wish.TheVariants.{Unmap, Protect}
use Rattle.spaces.specs.Edits.{Store, place_of, page_of}
use Rattle.tlb.specs.declared.store.Entry.{Entry}
use Rattle.tlb.specs.Mappings.{Mapping}
use Rattle.stepcore.specs.State.{State, words_in}
use Rattle.stepcore.specs.Answers.{asid_of_place, edit_in, is_place}
use Rattle.stale.specs.declared.changes.Change.{Change}
use Rattle.stale.specs.Mapped.{reach_of}

-- an unmapping or, with flags, a change of flags
abbrev pub wish_with : Place → Span → Option PteFlags → Wish
wish_with place page None = Unmap place page
wish_with place page (Some flags) = Protect place page flags

-- the smaller of two pages
abbrev pub smaller : Span → Span → Span
smaller page other = if nat_le (level_of page.size) (level_of other.size) then page else other

-- the word that the store replaces is a leaf with this PPN and these flags, which maps the page,
-- and the new word is another one
pub record IsLeafUnder (words : Tables) (store : Store) (page : Span) (ppn : ℕ)
    (flags : PteFlags) : Type 0 where
  pub word : ℕ
  pub is : words store.ppn store.index ≡ Some word
  pub kind : kind_of word ≡ Leaf ppn flags
  pub aligned : ppn % pages_of page.size ≡ 0
  pub other : kind_of store.word ≢ Leaf ppn flags

-- the edit is due now, and this is the leaf that it changes
pub record IsChangeOf (m : State) (hart : ℕ) (wish : Wish) (change : Change) : Type 0 where
  pub there : is_place m (place_of wish) ≡ true
  pub reach : change.reach ≡ asid_of_place m (place_of wish)
  pub page : change.page ≡ page_of wish
  pub store : Store
  pub edit : edit_in m hart wish ≡ Ok store
  pub leaf : IsLeafUnder (words_in m) store (page_of wish) change.ppn change.flags

-- the mapping is one of the leaf
pub record IsOfLeaf (change : Change) (m : Mapping) : Type 0 where
  pub asid : m.asid ≡ change.reach
  pub page : LiesIn change.page m.page
  pub ppn : m.ppn ≡ change.ppn + m.page % pages_of change.page.size
  pub flags : m.flags ≡ change.flags

-- the entry and the leaf map the page of 4 KiB of this number to one frame
abbrev pub IsSameFrame : Change → Entry → ℕ → Type 0
IsSameFrame change e number =
    change.ppn + number % pages_of change.page.size ≡ e.ppn + number % pages_of e.page.size

-- the mappings of the entry in the page are those of the leaf
pub record IsHeld (change : Change) (e : Entry) : Type 0 where
  pub reach : reach_of e ≡ change.reach
  pub flags : e.flags ≡ change.flags
  pub overlap : Overlap e.page change.page
  pub frame : IsSameFrame change e (page_number (smaller e.page change.page).base)

-- the mapping is one of the leaf that is changed, if any is
abbrev pub IsChanged : Option Change → Mapping → Type 0
IsChanged None m = ⊥
IsChanged (Some change) m = IsOfLeaf change m
