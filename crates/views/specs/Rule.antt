-- What the board keeps of the tables, between any two atomic steps.
use Rattle.std.specs.Prelude.{◌≡◌, ◌≢◌, ℕ, ◌+◌, ◌*◌, ◌<◌, ◌≤◌, true, List, [], ◌∷◌, ◌++◌, length, replicate, slice_index, is_some, Some, None, IfSome}
use mathlib.Core.Option.{some}
use lib.ListN.{get_elem?}
use Rattle.atomic_table.specs.Table.{State}
use Rattle.pte.specs.declared.scheme.Scheme.{Scheme}
use Rattle.pte.specs.declared.address.TheConstants.{TABLE_LENGTH}
use Rattle.walk.specs.Leads.{Tables}
use Rattle.walk.specs.Pointers.{pointed}
use Rattle.walk.specs.Stage.{Stage, OnPath}
use Rattle.shoot.specs.declared.TheConstants.{MAX_TICKETS}
use Rattle.spaces.specs.declared.configuration.Config.{Config}
use Rattle.spaces.specs.declared.places.Place.{Place}
use Rattle.spaces.specs.Layout.{Layout, layout_of, frame_count, home_of, is_frame, root_ppn, spare_ppn}
use Rattle.spaces.specs.Limits.{MeetsLimits}
use Rattle.spaces.specs.declared.configuration.TheConstants.{MAX_LIVE_FRAMES}
use Rattle.spaces.specs.Opening.{first_words, opening}
use Rattle.spaces.specs.Holders.{Holders}
use Rattle.spaces.specs.Held.{Held, IsMemory, holders_of, memory_words}
use Rattle.spaces.specs.Tree.{IsAtHome}
use Rattle.views.specs.declared.view.Read.{Read}
use Rattle.views.specs.declared.view.View.{View}

-- how many words all table frames have
abbrev pub size : Layout → ℕ
size l = frame_count l * TABLE_LENGTH

-- The cells follow the words of the tables, one for each sender, ticket and receiver. Those of a
-- sender and a receiver stand side by side, by ticket, so that they share a cache line with others
-- at most at their ends.
abbrev pub cell : Layout → ℕ → ℕ → ℕ → ℕ
cell l sender ticket receiver =
    size l + ((sender * length l.spares + receiver) * MAX_TICKETS + ticket)

-- how many words and cells there are
abbrev pub board_size : Layout → ℕ
board_size l = size l + length l.spares * length l.spares * MAX_TICKETS

-- the root of a space
abbrev pub IsRoot : Layout → ℕ → Type 0
IsRoot l root = (s : ℕ) × (s < length l.homes) × (root ≡ root_ppn l s)

-- the shared words as tables, frame by frame
abbrev pub tables_in : Layout → List ℕ → Tables
tables_in l ws = memory_words (record { layout = l; words = ws; holders = [] })

-- table memory as a hart knows it
abbrev pub memory_of : Layout → View → Held
memory_of l v = record { layout = l; words = v.words; holders = v.holders }

-- this many spare frames of the hart are in use, and they are its lowest ones
pub record UsesLowest (l : Layout) (holders : Holders) (hart used : ℕ) : Type 0 where
  pub room : used ≤ slice_index l.spares hart
  pub taken : (n : ℕ) → n < used → holders (spare_ppn l hart + n) ≢ None
  pub unused : (n : ℕ) → used ≤ n → n < slice_index l.spares hart
      → holders (spare_ppn l hart + n) ≡ None

-- What a view says by itself: its words and holders are a table memory, so pointers, the window,
-- unused frames and G are as in any, and only places at home on this hart have frames in use.
pub record Local (l : Layout) (v : View) : Type 0 where
  pub hart : v.hart < length l.spares
  pub memory : IsMemory (memory_of l v)
  pub alone : (f : ℕ) (place : Place) → holders_of (memory_of l v) f ≡ Some place
      → home_of l place ≡ v.hart
  pub lowest : UsesLowest l (holders_of (memory_of l v)) v.hart v.used

-- the memory has the words that were read
abbrev pub Has : Tables → List Read → Type 0
Has words [] = Unit {0}
Has words (r ∷ rs) = (words r.table r.index ≡ Some r.word) × Has words rs

abbrev pub ArePointers : List Read → Type 0
ArePointers [] = Unit {0}
ArePointers (r ∷ rs) = (is_some (pointed (Some r.word)) ≡ true) × ArePointers rs

-- a walk in flight: its table is the one that the words lead to, and the pointers that it read
-- stand there still
pub record IsWalk (scheme : Scheme) (words : Tables) (root : ℕ) (reads : List Read)
    (st : Stage) : Type 0 where
  pub on : OnPath scheme words root st
  pub pointers : ArePointers reads
  pub has : Has words reads

-- What a view says of the shared words: those at home are as it says, and a walk in flight leads
-- now.
pub record Seated (c : Config) (words : Tables) (v : View) : Type 0 where
  pub config : v.config ≡ c
  pub local : Local (layout_of c) v
  pub own : (f i : ℕ) → IsAtHome (layout_of c) v.hart f
      → words f i ≡ memory_words (memory_of (layout_of c) v) f i
  pub walk : IfSome v.walk (IsWalk c.scheme words v.root v.reads)

-- a hart has a seat, or waits for one
pub data Sits (views : List View) (hart : ℕ) : Type 0 where
  seated : (j : ℕ) (v : View) → get_elem? views j ≡ some v → v.hart ≡ hart → Sits views hart
  waits : (j : ℕ) (v : View) → get_elem? views j ≡ some v → 0 < v.next → v.next ≤ hart
      → Sits views hart

-- What is kept of table words: each is as its home's view says, and each walk in flight stands
-- where the words lead.
pub record Tabled (c : Config) (s : State ℕ View) : Type 0 where
  pub limits : MeetsLimits MAX_LIVE_FRAMES c
  -- the words of the frames come first, then the cells
  pub wide : board_size (layout_of c) ≤ length s.words
  -- a pointer leads to a frame
  pub inside : (f i g : ℕ) → pointed (tables_in (layout_of c) s.words f i) ≡ Some g
      → is_frame (layout_of c) g ≡ true
  -- the seat of a hart has the hart's number, so each hart has one
  pub numbered : (j : ℕ) (v : View) → get_elem? s.views j ≡ some v → v.hart ≡ j
  pub every : (hart : ℕ) → Sits s.views hart
  -- one seat deals the others: its next hart, and those after it, have none yet, and their words
  -- are as at the opening
  pub deals : (i j : ℕ) (v w : View) → get_elem? s.views i ≡ some v → get_elem? s.views j ≡ some w
      → 0 < v.next → (w.hart < v.next) × (0 < w.next → i ≡ j)
  pub dealt_all : (j : ℕ) (v : View) → get_elem? s.views j ≡ some v → 0 < v.next
      → v.next ≡ length s.views
  pub undealt : (j : ℕ) (v : View) → get_elem? s.views j ≡ some v → 0 < v.next → (hart f i : ℕ)
      → v.next ≤ hart → IsAtHome (layout_of c) hart f
      → tables_in (layout_of c) s.words f i ≡ opening (layout_of c) f i
  pub each : (j : ℕ) (v : View) → get_elem? s.views j ≡ some v
      → Seated c (tables_in (layout_of c) s.words) v

-- the words at the opening: those of all frames, and the cells
abbrev pub board_words : Layout → List ℕ
board_words l =
    first_words l (size l) ++ replicate (length l.spares * length l.spares * MAX_TICKETS) 0

-- the view of a hart that has done nothing; next is the hart that gets the next seat from this one,
-- or 0
abbrev pub starting : Config → ℕ → ℕ → View
starting c hart next = record {
  hart = hart;
  config = c;
  next = next;
  words = first_words (layout_of c) (size (layout_of c));
  holders = replicate (frame_count (layout_of c)) None;
  used = 0;
  stores = 0;
  versions = first_words (layout_of c) (size (layout_of c)) ∷ [];
  root = 0;
  walk = None;
  reads = [];
  loads = 0;
  entries = [];
  orders = [];
  cell_steps = [];
}

abbrev pub first_view : Config → View
first_view c = starting c 0 1

-- the view of the seat that deals, after a deal, and of the seat that was dealt
abbrev pub dealer : View → View
dealer v = record v { next = v.next + 1 }

abbrev pub dealt : View → View
dealt v = starting v.config v.next 0
