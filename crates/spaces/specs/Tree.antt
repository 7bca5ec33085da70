-- The tables as a tree: what the words at the home of one hart keep, whatever the words of the
-- others are.
use Rattle.std.specs.Prelude.{ℕ, true, false, ◌≡◌, ◌+◌, ◌-◌, ◌%◌, ◌<◌, ◌≤◌, ◌⊎◌, Option, Some, None, IsSome, length, slice_index}
use Rattle.pte.specs.declared.flags.PteFlags.{PteFlags}
use Rattle.pte.specs.declared.entry.Kind.{Kind}
use Rattle.pte.specs.declared.entry.Kind.TheVariants as kinds
use Rattle.pte.specs.Address.{level_pages, top_level, vpn_of}
use Rattle.pte.specs.declared.address.TheConstants.{TABLE_LENGTH}
use Rattle.pte.specs.Entry.{kind_of, is_global, table_word}
use Rattle.walk.specs.Leads.{Tables, word_at}
use Rattle.walk.specs.Pointers.{pointed, table_below}
use Rattle.spaces.specs.declared.places.Place.{Place}
use Rattle.spaces.specs.declared.places.Place.TheVariants.{Space, Kernel}
use Rattle.spaces.specs.Holders.{Holders}
use Rattle.spaces.specs.Layout.{Layout, HasPlace, home_of, is_root, root_ppn, window_ppn, spare_ppn, user_slots, first_window_slot}

-- the topmost table of a place on the path of an address, and its level: a space's root, or a table
-- of the window
abbrev pub start_level : Layout → Place → ℕ
start_level l (Space s) = top_level l.scheme
start_level l Kernel = top_level l.scheme - 1

abbrev pub start_table : Layout → Place → ℕ → ℕ
start_table l (Space s) va = root_ppn l s
start_table l Kernel va = window_ppn l (vpn_of va (top_level l.scheme) - first_window_slot l)

-- the address lies in the place's part of a root
abbrev pub IsIn : Layout → Place → ℕ → Type 0
IsIn l (Space s) va = vpn_of va (top_level l.scheme) < user_slots
IsIn l Kernel va = first_window_slot l ≤ vpn_of va (top_level l.scheme)

-- the table n levels below the topmost, on the path of an address in a place
abbrev pub table_on : Layout → Tables → Place → ℕ → ℕ → Option ℕ
table_on l words place va n = table_below words va (start_level l place) (start_table l place va) n

-- the frame is at home on the hart: a root of its spaces, a table of the window, or a spare frame
pub data IsAtHome (l : Layout) (hart f : ℕ) : Type 0 where
  of_root : (s : ℕ) → s < length l.homes → slice_index l.homes s ≡ hart → f ≡ root_ppn l s
      → IsAtHome l hart f
  of_window : (k : ℕ) → k < l.window → hart ≡ 0 → f ≡ window_ppn l k → IsAtHome l hart f
  of_spare : (n : ℕ) → n < slice_index l.spares hart → f ≡ spare_ppn l hart + n → IsAtHome l hart f

-- a spare frame of the hart that is in use for a place
pub record IsSpareFor (l : Layout) (hart : ℕ) (holders : Holders) (place : Place) (f : ℕ) : Type 0
  where
    pub number : ℕ
    pub below : number < slice_index l.spares hart
    pub is : f ≡ spare_ppn l hart + number
    pub held : holders f ≡ Some place

-- a topmost table of a place
abbrev pub IsTop : Layout → Place → ℕ → Type 0
IsTop l (Space s) f = f ≡ root_ppn l s
IsTop l Kernel f = (k : ℕ) × (k < l.window) × (f ≡ window_ppn l k)

-- a table of a place at home on the hart
abbrev pub IsTableOf : Layout → ℕ → Holders → Place → ℕ → Type 0
IsTableOf l hart holders place f = IsTop l place f ⊎ IsSpareFor l hart holders place f

-- a table and the next one, of one place
pub record IsStep (l : Layout) (hart : ℕ) (holders : Holders) (f g : ℕ) : Type 0 where
  pub place : Place
  pub has : HasPlace l place
  pub home : home_of l place ≡ hart
  pub from : IsTableOf l hart holders place f
  pub to : IsSpareFor l hart holders place g

-- a slot that edits may write: any but those of a root's upper half
abbrev pub IsOwn : Layout → ℕ → ℕ → Type 0
IsOwn l f i = is_root l f ≡ true → i < user_slots

-- an entry is 0, a pointer or a leaf
abbrev pub IsEntryOf : ℕ → Kind → Type 0
IsEntryOf word kinds.Invalid = word ≡ 0
IsEntryOf word kinds.Reserved = ⊥
IsEntryOf word (kinds.Table ppn global) = Unit {0}
IsEntryOf word (kinds.Leaf ppn flags) = Unit {0}

-- the frames of one home, whose spare frames are in use for these places
pub record IsHome (l : Layout) (words : Tables) (hart : ℕ) (holders : Holders) : Type 0 where
  -- what is in use for a place of this home is a spare frame of it
  pub held : (f : ℕ) (place : Place) → holders f ≡ Some place → home_of l place ≡ hart
      → (n : ℕ) × (n < slice_index l.spares hart) × (f ≡ spare_ppn l hart + n)
  pub present : (f i : ℕ) → IsAtHome l hart f → i < TABLE_LENGTH → IsSome (words f i)
  pub entries : (f i word : ℕ) → IsAtHome l hart f → words f i ≡ Some word
      → IsEntryOf word (kind_of word)
  -- every root points to the window's tables, and its other upper slots are empty
  pub window : (s k : ℕ) → s < length l.homes → slice_index l.homes s ≡ hart → k < l.window
      → words (root_ppn l s) (first_window_slot l + k) ≡ Some (table_word (window_ppn l k) true)
  pub upper : (s i : ℕ) → s < length l.homes → slice_index l.homes s ≡ hart → user_slots ≤ i
      → i < first_window_slot l
      → words (root_ppn l s) i ≡ Some 0
  -- any other pointer leads from a table of a place to a spare frame in use for that place, to
  -- which no other leads
  pub closed : (f i g : ℕ) → IsAtHome l hart f → IsOwn l f i → pointed (words f i) ≡ Some g
      → IsStep l hart holders f g
  pub once : (f i f' i' g : ℕ) → IsAtHome l hart f → IsAtHome l hart f' → IsOwn l f i
      → IsOwn l f' i'
      → pointed (words f i) ≡ Some g → pointed (words f' i') ≡ Some g → (f ≡ f') × (i ≡ i')
  pub unused : (n i : ℕ) → holders (spare_ppn l hart + n) ≡ None → n < slice_index l.spares hart
      → i < TABLE_LENGTH → words (spare_ppn l hart + n) i ≡ Some 0
  -- pointers lead down level by level: at the lowest there is none
  pub bottom : (place : Place) (va t : ℕ) → HasPlace l place → home_of l place ≡ hart
      → IsIn l place va
      → table_on l words place va (start_level l place) ≡ Some t
      → pointed (word_at words va 0 t) ≡ None
  -- no word of a space has G
  pub plain : (s va n t word : ℕ) → s < length l.homes → slice_index l.homes s ≡ hart
      → IsIn l (Space s) va → n ≤ top_level l.scheme
      → table_on l words (Space s) va n ≡ Some t
      → word_at words va (top_level l.scheme - n) t ≡ Some word → is_global word ≡ false
  -- the PPN of a leaf is a multiple of the size of its page, in pages of 4 KiB: a walk that comes to
  -- any other leaf raises a page fault (privileged manual 4.3.2, step 6)
  pub aligned : (place : Place) (va n t word ppn : ℕ) (flags : PteFlags) → HasPlace l place
      → home_of l place ≡ hart → IsIn l place va → n ≤ start_level l place
      → table_on l words place va n ≡ Some t
      → word_at words va (start_level l place - n) t ≡ Some word
      → kind_of word ≡ kinds.Leaf ppn flags → ppn % level_pages (start_level l place - n) ≡ 0

-- the frames of all homes
abbrev pub IsTree : Layout → Tables → Holders → Type 0
IsTree l words holders = (hart : ℕ) → hart < length l.spares → IsHome l words hart holders
