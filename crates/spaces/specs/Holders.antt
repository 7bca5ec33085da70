-- For which place each spare frame is in use, which one a new table takes, and what giving back the
-- frames of a space leaves.
use Rattle.std.specs.Prelude.{ℕ, Bool, zero, suc, true, false, ◌+◌, ◌==◌, ◌&&◌, ◌||◌, nat_lt, if◌then◌else◌, Option, Some, None, is_none, option_map, unwrap_or, slice_index}
use Rattle.walk.specs.Leads.{Tables}
use Rattle.spaces.specs.declared.places.Place.{Place}
use Rattle.spaces.specs.declared.places.Place.TheVariants.{Space, Kernel}
use Rattle.spaces.specs.Layout.{Layout, root_ppn, spare_ppn, user_slots}

-- the place that the frame of a PPN is in use for; an unused spare frame has none
abbrev pub Holders : Type 0
Holders = ℕ → Option Place

abbrev pub is_same_place : Place → Place → Bool
is_same_place (Space s) (Space t) = s == t
is_same_place Kernel Kernel = true
is_same_place _ _ = false

abbrev pub is_held_for : Option Place → Place → Bool
is_held_for holder place = unwrap_or (option_map (λ other. is_same_place other place) holder) false

-- the first unused one of n frames from a PPN on
abbrev pub first_unused : Holders → ℕ → ℕ → Option ℕ
first_unused holders zero ppn = None
first_unused holders (suc n) ppn =
    if is_none (holders ppn) then Some ppn else first_unused holders n (ppn + 1)

-- the lowest unused spare frame of a hart
abbrev pub unused_spare : Layout → Holders → ℕ → Option ℕ
unused_spare l holders h = first_unused holders (slice_index l.spares h) (spare_ppn l h)

-- a word of a space alone: one of its root's user half, or of a frame in use for it
abbrev pub is_word_of : Layout → Holders → ℕ → ℕ → ℕ → Bool
is_word_of l holders s ppn i =
    (ppn == root_ppn l s && nat_lt i user_slots) || is_held_for (holders ppn) (Space s)

abbrev pub zero_word : Option ℕ → Option ℕ
zero_word word = option_map (λ (old : ℕ). 0) word

-- the words and the holders once the space is given back: its words are 0, and its frames unused
abbrev pub emptied : Layout → Holders → ℕ → Tables → Tables
emptied l holders s words ppn i =
    if is_word_of l holders s ppn i then zero_word (words ppn i) else words ppn i

abbrev pub given_back : Option Place → ℕ → Option Place
given_back old s = if is_held_for old (Space s) then None else old
