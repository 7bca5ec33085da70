-- What an edit does to the pages that the roots map.
use Rattle.std.specs.Prelude.{ℕ, Bool, ◌≡◌, ◌≢◌, ◌+◌, ◌*◌, ◌-◌, ◌<◌, ◌≤◌, ◌⊎◌, ◌↔◌, length, slice_index, Option, Some, None, IsSome, IsNone, Ok, unwrap_or}
use Rattle.pte.specs.declared.flags.PteFlags.{PteFlags}
use Rattle.pte.specs.declared.scheme.Scheme.{Scheme}
use Rattle.pte.specs.Address.{Span, IsPage, bytes_of, top_level, vpn_of}
use Rattle.pte.specs.declared.address.PageSize.TheVariants.{Kib4}
use Rattle.walk.specs.Leads.{Tables, Leads, word_at}
use Rattle.walk.specs.Maps.{LiesIn, Maps, page_number}
use Rattle.spaces.specs.declared.places.Place.{Place}
use Rattle.spaces.specs.declared.places.Place.TheVariants.{Space, Kernel}
use Rattle.spaces.specs.declared.wishes.PathEnd.{PathEnd}
use Rattle.spaces.specs.declared.wishes.Wish.{Wish}
use Rattle.spaces.specs.declared.wishes.Wish.TheVariants.{Map, Unmap, Protect}
use Rattle.spaces.specs.Layout.{Layout, HasPlace, root_ppn, spare_ppn, user_slots}
use Rattle.spaces.specs.Held.{IsLayout}
use Rattle.spaces.specs.Holders.{Holders, unused_spare}
use Rattle.spaces.specs.Tree.{IsTree}
use Rattle.walk.specs.Pointers.{pointed}
use Rattle.spaces.specs.Edits.{Store, place_of, page_of, is_kernel, edit_of}
use Rattle.spaces.specs.Applied.{seven}

-- the roots below which a place's tables hang: a space's own, and for the kernel every space's
abbrev pub HangsBelow : Place → ℕ → Type 0
HangsBelow (Space s') s = s' ≡ s
HangsBelow Kernel s = Unit {0}

-- the page of 4 KiB with this number, in the root of this space, is one that the edit is about
abbrev pub IsAbout : Place → Span → ℕ → ℕ → Type 0
IsAbout place page s number = HangsBelow place s × LiesIn page number

-- every root maps what it mapped
abbrev pub SameMaps : Layout → Tables → Tables → Type 0
SameMaps l old new = (s number ppn : ℕ) (flags : PteFlags) (global : Bool) → s < length l.homes
    → Maps l.scheme new (root_ppn l s) number ppn flags global
    ↔ Maps l.scheme old (root_ppn l s) number ppn flags global

-- the page's members are added, with PPNs from this one on, and nothing else changes in any root
abbrev pub AddsPage : Layout → Place → Span → ℕ → PteFlags → Tables → Tables → Type 0
AddsPage l place page first flags old new =
    (s number ppn : ℕ) (f : PteFlags) (global : Bool) → s < length l.homes
    → Maps l.scheme new (root_ppn l s) number ppn f global
    ↔ (Maps l.scheme old (root_ppn l s) number ppn f global
    ⊎ (IsAbout place page s number × (ppn ≡ first + (number - page_number page.base))
    × (f ≡ seven flags) × (global ≡ is_kernel place)))

-- the page's members are taken away, and nothing else changes in any root
abbrev pub RemovesPage : Layout → Place → Span → Tables → Tables → Type 0
RemovesPage l place page old new =
    (s number ppn : ℕ) (f : PteFlags) (global : Bool) → s < length l.homes
    → Maps l.scheme new (root_ppn l s) number ppn f global
    ↔ (Maps l.scheme old (root_ppn l s) number ppn f global × (IsAbout place page s number → ⊥))

-- the flags of the page's members change, and nothing else in any root
abbrev pub ChangesFlags : Layout → Place → Span → PteFlags → Tables → Tables → Type 0
ChangesFlags l place page flags old new =
    (s number ppn : ℕ) (f : PteFlags) (global : Bool) → s < length l.homes
    → Maps l.scheme new (root_ppn l s) number ppn f global
    ↔ ((Maps l.scheme old (root_ppn l s) number ppn f global × (IsAbout place page s number → ⊥))
    ⊎ (IsAbout place page s number × (f ≡ seven flags)
    × ((was : PteFlags) × Maps l.scheme old (root_ppn l s) number ppn was global)))

-- a page of 4 KiB of the user's half of a space
abbrev pub IsOfUser : Scheme → ℕ → ℕ → ℕ → Type 0
IsOfUser scheme space s number =
    (s ≡ space) × (vpn_of (number * bytes_of Kib4) (top_level scheme) < user_slots)

-- the pages of the user's half of the space are taken away, and nothing else changes in any root
abbrev pub EmptiesSpace : Layout → ℕ → Tables → Tables → Type 0
EmptiesSpace l space old new =
    (s number ppn : ℕ) (f : PteFlags) (global : Bool) → s < length l.homes
    → Maps l.scheme new (root_ppn l s) number ppn f global
    ↔ (Maps l.scheme old (root_ppn l s) number ppn f global
    × (IsOfUser l.scheme space s number → ⊥))

-- the words of the space alone become 0: those of the frames in use for it, and those of its root's
-- user half
pub record EmptiesWords (l : Layout) (space : ℕ) (holders : Holders) (old new : Tables) : Type 0
  where
    pub frames : (ppn i : ℕ) → holders ppn ≡ Some (Space space) → IsSome (old ppn i)
        → new ppn i ≡ Some 0
    pub root : (i : ℕ) → i < user_slots → IsSome (old (root_ppn l space) i)
        → new (root_ppn l space) i ≡ Some 0
    pub others : (ppn i : ℕ) → holders ppn ≢ Some (Space space)
        → (ppn ≡ root_ppn l space → user_slots ≤ i) → new ppn i ≡ old ppn i
    pub none_more : (ppn i : ℕ) → old ppn i ≡ None → new ppn i ≡ None

-- the frames in use for the space become unused, and no other
pub record GivesBack (space : ℕ) (old new : Holders) : Type 0 where
  pub unused : (ppn : ℕ) → old ppn ≡ Some (Space space) → new ppn ≡ None
  pub others : (ppn : ℕ) → old ppn ≢ Some (Space space) → new ppn ≡ old ppn

-- the frame that a stored word points to is in use for the place, and no other changes
pub record TakesFrame (place : Place) (word : ℕ) (old new : Holders) : Type 0 where
  pub taken : (ppn : ℕ) → pointed (Some word) ≡ Some ppn → new ppn ≡ Some place
  pub others : (ppn : ℕ) → pointed (Some word) ≢ Some ppn → new ppn ≡ old ppn

-- the frame is the lowest spare one of the hart that is unused
pub record IsLowestUnused (l : Layout) (holders : Holders) (h ppn : ℕ) : Type 0 where
  pub number : ℕ
  pub below : number < slice_index l.spares h
  pub is : ppn ≡ spare_ppn l h + number
  pub unused : holders ppn ≡ None
  pub lowest : (n : ℕ) → n < number → holders (spare_ppn l h + n) ≢ None

-- an edit of a tree that is accepted
pub record IsEdit (l : Layout) (words : Tables) (holders : Holders) (hart : ℕ) (wish : Wish)
    (store : Store) : Type 0 where
  pub layout : IsLayout l
  pub tree : IsTree l words holders
  pub has : HasPlace l (place_of wish)
  pub page : IsPage (page_of wish)
  pub is : edit_of l words (unused_spare l holders hart) hart wish ≡ Ok store

-- what it does to the mappings of all roots, by what it stores
abbrev pub HasEffect : Layout → Wish → Store → Tables → Tables → Type 0
HasEffect l (Map place page ppn flags) store old new =
    (IsSome (pointed (Some store.word)) → SameMaps l old new)
    × (IsNone (pointed (Some store.word)) → AddsPage l place page ppn flags old new)
HasEffect l (Unmap place page) store old new = RemovesPage l place page old new
HasEffect l (Protect place page flags) store old new = ChangesFlags l place page flags old new

-- where a path ends anything leads, and nothing leads lower, down to the lowest level that is
-- looked at
pub record IsEnd (scheme : Scheme) (words : Tables) (root va lowest : ℕ) (end : PathEnd) : Type 0
  where
    pub from : lowest ≤ end.level
    pub leads : Leads scheme words root va end.level end.table
        (word_at words va end.level end.table)
    pub entry : end.entry ≡ unwrap_or (word_at words va end.level end.table) 0
    pub is_lowest : (j table : ℕ) (word : Option ℕ) → lowest ≤ j
        → Leads scheme words root va j table word → end.level ≤ j
