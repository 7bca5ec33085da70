-- What Clear rests on besides tickets and fences: events speak of pages, ASIDs are distinct, and
-- what the tables keep.
use Rattle.std.specs.Prelude.{ℕ, ◌≡◌, ◌<◌, ◌≤◌, ◌^◌, Bool, true, false, [], ◌∷◌, length, Option, Some, Ok}
use Rattle.pte.specs.Address.{Span, IsPage}
use Rattle.pte.specs.declared.flags.PteFlags.{PteFlags}
use Rattle.walk.specs.Maps.{Maps, LiesIn}
use Rattle.walk.specs.Stores.{stored}
use Rattle.spaces.specs.declared.wishes.Wish.{Wish}
use Rattle.spaces.specs.declared.places.Place.TheVariants.{Space, Kernel}
use Rattle.spaces.specs.Layout.{root_ppn}
use Rattle.spaces.specs.Held.{IsLayout}
use Rattle.spaces.specs.Edits.{Store, is_wrong_half}
use Rattle.pte.specs.declared.TheConstants.{ASID_BITS, MAX_HARTS}
use Rattle.history.specs.Setup.{Setup}
use Rattle.history.specs.Spaces.{status_of, is_free, asid_of, holder_of}
use Rattle.history.specs.declared.event.Event.{Event}
use Rattle.history.specs.declared.event.Event.TheVariants.{Map, Unmap, Protect, Create}
use Rattle.history.specs.Turns.{Turn, History}
use Rattle.history.specs.Orders.{Order, Unmapped, order_at}
use Rattle.history.specs.Tables.{edit_due, words_of}
use Rattle.history.specs.Staleness.{is_mapped_anew, is_superseded, IsChange, Reaches}

-- the page of an event is one: its base is canonical and a multiple of its size; and an ASID has 16
-- bits
abbrev pub HasPage : Event → Type 0
HasPage (Map hart place page ppn flags) = IsPage page
HasPage (Unmap hart place page named) = IsPage page
HasPage (Protect hart place page flags named) = IsPage page
HasPage (Create hart space asid) = asid < 2 ^ ASID_BITS
HasPage _ = Unit {0}

abbrev pub HavePages : History → Type 0
HavePages [] = Unit {0}
HavePages (turn ∷ history) = HavePages history × HasPage turn.event

-- there is a space, and each has an ASID of its own at the opening
pub record HasAsids (setup : Setup) : Type 0 where
  pub some_space : 0 < length setup.asids
  pub bound : (s : ℕ) → s < length setup.asids → asid_of setup [] s < 2 ^ ASID_BITS
  pub distinct : (s t : ℕ) → s < length setup.asids → t < length setup.asids
      → asid_of setup [] s ≡ asid_of setup [] t → s ≡ t

-- what the laws ask of a setup: a layout and harts within the limits, and an ASID of its own for
-- each of its spaces
pub record IsSetup (setup : Setup) : Type 0 where
  pub harts : setup.harts ≤ MAX_HARTS
  pub layout : IsLayout setup.layout
  pub homes : length setup.asids ≡ length setup.layout.homes
  pub asids : HasAsids setup

-- the root of a space through which a page of an ASID, or of the kernel, is reached
abbrev pub IsRootOf : Setup → History → Option ℕ → ℕ → Type 0
IsRootOf setup history of root =
    (s : ℕ) × Reaches setup history of s × (root ≡ root_ppn setup.layout s)

-- nothing is mapped in the page of an unmapping, from any root through which it is reached, until
-- it is mapped anew
abbrev pub StaysUnmapped : Setup → History → Type 0
StaysUnmapped setup history =
    (number : ℕ) (order : Order) (of : Option ℕ) (page : Span)
    → order_at setup history number ≡ Some order → order.cause ≡ Unmapped of page
    → is_mapped_anew setup history number ≡ false
    → (root n ppn : ℕ) (flags : PteFlags) (global : Bool) → IsRootOf setup history of root
    → LiesIn page n → ¬ Maps setup.layout.scheme (words_of setup history) root n ppn flags global

-- no page of the user's half is mapped global, from the root of any space
abbrev pub UserPagesAreNotGlobal : Setup → History → Type 0
UserPagesAreNotGlobal setup history =
    (s space : ℕ) (page : Span) (n ppn : ℕ) (flags : PteFlags) → IsPage page
    → is_wrong_half setup.layout (Space s) page ≡ false → space < length setup.asids → LiesIn page n
    → ¬ Maps setup.layout.scheme (words_of setup history) (root_ppn setup.layout space) n ppn flags
    true

-- what is mapped in the page of an unmapping or a change of flags stays mapped, over one more turn,
-- until the page is unmapped or changed once more, from a root through which the page is reached
-- after the turn too
abbrev pub StaysMapped : Setup → Turn → History → Type 0
StaysMapped setup turn history =
    (number : ℕ) (order : Order) (of : Option ℕ) (page : Span)
    → order_at setup history number ≡ Some order → IsChange order.cause of page
    → is_superseded setup (turn ∷ history) number ≡ false
    → (root n ppn : ℕ) (flags : PteFlags) (global : Bool) → IsRootOf setup history of root
    → IsRootOf setup (turn ∷ history) of root → LiesIn page n
    → Maps setup.layout.scheme (words_of setup history) root n ppn flags global
    → Maps setup.layout.scheme (words_of setup (turn ∷ history)) root n ppn flags global

-- what is mapped in the window from one root is mapped from each
abbrev pub WindowIsShared : Setup → History → Type 0
WindowIsShared setup history =
    (page : Span) (s t n ppn : ℕ) (flags : PteFlags) (global : Bool) → IsPage page
    → is_wrong_half setup.layout Kernel page ≡ false → s < length setup.asids
    → t < length setup.asids
    → LiesIn page n → Maps setup.layout.scheme (words_of setup history) (root_ppn setup.layout s) n
    ppn flags global → Maps setup.layout.scheme (words_of setup history) (root_ppn setup.layout t) n
    ppn flags global

-- no two live or retiring spaces have one ASID
abbrev pub AsidsDiffer : Setup → History → Type 0
AsidsDiffer setup history =
    (s t : ℕ) → s < length setup.asids → t < length setup.asids
    → is_free (status_of history s) ≡ false → is_free (status_of history t) ≡ false
    → asid_of setup history s ≡ asid_of setup history t → s ≡ t

-- a free space maps nothing in the user's half
abbrev pub FreeMapsNothing : Setup → History → Type 0
FreeMapsNothing setup history =
    (s : ℕ) (page : Span) (n ppn : ℕ) (flags : PteFlags) (global : Bool) → s < length setup.asids
    → is_free (status_of history s) ≡ true
    → IsPage page → is_wrong_half setup.layout (Space s) page ≡ false → LiesIn page n
    → ¬ Maps setup.layout.scheme (words_of setup history) (root_ppn setup.layout s) n ppn flags
    global

-- the store that was due to an edit by the hart is made, and no other word changes
pub record MakesDueStore (setup : Setup) (hart : ℕ) (wanted : Wish) (turn : Turn)
    (history : History) : Type 0 where
  pub store : Store
  pub due : edit_due setup (words_of setup history) (holder_of history) hart wanted ≡ Ok store
  pub words : words_of setup (turn ∷ history)
      ≡ stored (words_of setup history) store.ppn store.index store.word
