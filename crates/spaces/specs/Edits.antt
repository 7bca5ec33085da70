-- Which store is due to map, unmap or protect a page, or why it is refused.
use Rattle.std.specs.Prelude.{ℕ, Bool, ◌≡◌, ◌≤◌, zero, suc, ◌+◌, ◌-◌, ◌%◌, ◌^◌, ◌==◌, ◌||◌, not, nat_le, nat_lt, if◌then◌else◌, true, false, Option, Some, None, Result, Ok, Err, unwrap_or}
use Rattle.pte.specs.declared.flags.PteFlags.{PteFlags}
use Rattle.pte.specs.declared.entry.Kind.{Kind}
use Rattle.pte.specs.declared.entry.Kind.TheVariants as kinds
use Rattle.pte.specs.Address.{Span, fits, top_level, widest, level_of, pages_of, vpn_of}
use Rattle.pte.specs.Entry.{kind_of, table_word, leaf_word, is_no_leaf, is_global}
use Rattle.pte.specs.declared.entry.TheConstants.{PPN_BITS}
use Rattle.walk.specs.Leads.{Tables, word_at}
use Rattle.spaces.specs.declared.places.Place.{Place}
use Rattle.spaces.specs.declared.places.Place.TheVariants.{Space, Kernel}
use Rattle.spaces.specs.declared.wishes.Wish.{Wish}
use Rattle.spaces.specs.declared.wishes.Wish.TheVariants.{Map, Unmap, Protect}
use Rattle.spaces.specs.declared.faults.MapFault.{MapFault}
use Rattle.spaces.specs.declared.faults.MapFault.TheVariants.{NotHome, WrongHalf, BadFlags, PpnTooLarge, Misaligned, LeafInWay, NoFrame, AlreadyMapped, TableInWay, NotMapped, WrongSize}
use Rattle.spaces.specs.declared.wishes.PathEnd.{PathEnd}
use Rattle.spaces.specs.Layout.{Layout, home_of, root_ppn, user_slots, first_window_slot}

-- one store: the place that it is for, the table, the index of the word, and the new word
pub record Store : Type 0 where
  pub place : Place
  pub ppn : ℕ
  pub index : ℕ
  pub word : ℕ

abbrev pub place_of : Wish → Place
place_of (Map place page ppn flags) = place
place_of (Unmap place page) = place
place_of (Protect place page flags) = place

abbrev pub page_of : Wish → Span
page_of (Map place page ppn flags) = page
page_of (Unmap place page) = page
page_of (Protect place page flags) = page

abbrev pub is_kernel : Place → Bool
is_kernel (Space s) = false
is_kernel Kernel = true

-- the slot of the root that the page lies in
abbrev pub root_slot : Layout → Span → ℕ
root_slot l page = vpn_of page.base (top_level l.scheme)

-- a page of a space outside the user's half, or of the kernel outside the window
abbrev pub is_outside : Layout → Place → Span → Bool
is_outside l (Space s) page = nat_le user_slots (root_slot l page)
is_outside l Kernel page = nat_lt (root_slot l page) (first_window_slot l)

-- or one that is none of the scheme
abbrev pub is_wrong_half : Layout → Place → Span → Bool
is_wrong_half l place page = not (fits l.scheme page) || is_outside l place page

-- flags of no leaf, or G set for a space or clear for the kernel
abbrev pub is_wrong_global : Place → PteFlags → Bool
is_wrong_global (Space s) flags = is_global flags.0
is_wrong_global Kernel flags = not (is_global flags.0)

-- (a set of flags has 8 bits)
abbrev pub is_bad : Place → PteFlags → Bool
is_bad place flags = is_no_leaf flags.0 || (is_wrong_global place flags || nat_le (2 ^ 8) flags.0)

-- the PPN is no multiple of the page's size in pages
abbrev pub is_misaligned : Span → ℕ → Bool
is_misaligned page ppn = not (ppn % pages_of page.size == 0)

-- what is wrong with the flags and the PPN that are wished
abbrev pub leaf_fault : Wish → Option MapFault
leaf_fault (Map place page ppn flags) =
    if is_bad place flags then Some BadFlags
    else if nat_le (2 ^ PPN_BITS) ppn then Some PpnTooLarge
    else if is_misaligned page ppn then Some Misaligned
    else None
leaf_fault (Unmap place page) = None
leaf_fault (Protect place page flags) = if is_bad place flags then Some BadFlags else None

-- an edit that waits for a word of a table of a level
pub record EditStage : Type 0 where
  pub wish : Wish
  pub level : ℕ
  pub table : ℕ

-- what every such edit keeps
pub record IsStage (e : EditStage) : Type 0 where
  pub leaf : leaf_fault e.wish ≡ None
  pub from : level_of (page_of e.wish).size ≤ e.level
  pub to : e.level ≤ top_level widest

-- what is wrong before any table is read
unfoldable pub wish_fault : Layout → ℕ → Wish → Option MapFault
wish_fault l hart wish =
    if not (hart == home_of l (place_of wish)) then Some NotHome
    else if is_wrong_half l (place_of wish) (page_of wish) then Some WrongHalf
    else leaf_fault wish

-- where a path ends: a word of a table of a level, which is 0 outside memory
abbrev pub end_at : Tables → ℕ → ℕ → ℕ → PathEnd
end_at words va level table =
    record { level = level; table = table; entry = unwrap_or (word_at words va level table) 0 }

-- a path goes on at a pointer
abbrev pub go_on : Kind → (ℕ → PathEnd) → PathEnd → PathEnd
go_on (kinds.Table ppn global) below here = below ppn
go_on _ below here = here

-- the end of the path of an address from a table that is this many levels above the lowest level
-- that is looked at
unfoldable pub path_end : Tables → ℕ → ℕ → ℕ → ℕ → PathEnd
path_end words va lowest zero table = end_at words va lowest table
path_end words va lowest (suc n) table =
    go_on (kind_of (end_at words va (lowest + suc n) table).entry) (path_end words va lowest n)
    (end_at words va (lowest + suc n) table)

-- the root that a page's path starts at; the kernel's tables are below each root
abbrev pub path_root : Layout → Place → ℕ
path_root l (Space s) = root_ppn l s
path_root l Kernel = root_ppn l 0

-- the end of the path of a page of a place
abbrev pub path_of : Layout → Tables → Place → Span → PathEnd
path_of l words place page =
    path_end words page.base (level_of page.size) (top_level l.scheme - level_of page.size)
    (path_root l place)

-- the word that is due at the page's own level, by what stands there
abbrev pub page_word : Wish → Kind → Result ℕ MapFault
page_word (Map place page ppn flags) (kinds.Leaf q f) = Err AlreadyMapped
page_word (Map place page ppn flags) (kinds.Table q g) = Err TableInWay
page_word (Map place page ppn flags) _ = Ok (leaf_word ppn flags)
page_word (Unmap place page) (kinds.Leaf q f) = Ok 0
page_word (Protect place page flags) (kinds.Leaf q f) = Ok (leaf_word q flags)
page_word _ (kinds.Table q g) = Err WrongSize
page_word _ _ = Err NotMapped

-- a pointer to the lowest unused spare frame
abbrev pub pointer_word : Place → Option ℕ → Result ℕ MapFault
pointer_word place (Some frame) = Ok (table_word frame (is_kernel place))
pointer_word place None = Err NoFrame

-- the word that is due above the page's level, by what stands there
abbrev pub upper_word : Wish → Option ℕ → Kind → Result ℕ MapFault
upper_word (Map place page ppn flags) spare (kinds.Leaf q f) = Err LeafInWay
upper_word (Map place page ppn flags) spare _ = pointer_word place spare
upper_word _ spare (kinds.Leaf q f) = Err WrongSize
upper_word _ spare _ = Err NotMapped

-- the word that is due where the path of the page ends, or why there is none
abbrev pub due_word : Wish → Option ℕ → PathEnd → Result ℕ MapFault
due_word wish spare end =
    if end.level == level_of (page_of wish).size then page_word wish (kind_of end.entry)
    else upper_word wish spare (kind_of end.entry)

abbrev pub store_at : Place → ℕ → PathEnd → Result ℕ MapFault → Result Store MapFault
store_at place va end (Ok word) =
    Ok (record { place = place; ppn = end.table; index = vpn_of va end.level; word = word })
store_at place va end (Err fault) = Err fault

-- the store that is due at the end of the path, by the lowest unused spare frame of the home
abbrev pub store_due : Wish → Option ℕ → PathEnd → Result Store MapFault
store_due wish spare end =
    store_at (place_of wish) (page_of wish).base end (due_word wish spare end)

abbrev pub unless : Option MapFault → Result Store MapFault → Result Store MapFault
unless None r = r
unless (Some fault) r = Err fault

-- the end of the path of the wished page
abbrev pub wish_end : Layout → Tables → Wish → PathEnd
wish_end l words wish = path_of l words (place_of wish) (page_of wish)

-- the store that is due, or the first fault
unfoldable pub edit_of : Layout → Tables → Option ℕ → ℕ → Wish → Result Store MapFault
edit_of l words spare hart wish =
    unless (wish_fault l hart wish) (store_due wish spare (wish_end l words wish))
