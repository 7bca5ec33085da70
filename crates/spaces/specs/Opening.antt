-- The words of table memory at its opening: 0, but for the window's slots of each root, which point
-- to the window's tables.
use Rattle.std.specs.Prelude.{ℕ, Bool, ◌+◌, ◌-◌, ◌/◌, ◌%◌, ◌&&◌, nat_le, nat_lt, if◌then◌else◌, true, Some, None, List, [], ◌∷◌, ◌++◌, zero, suc}
use Rattle.pte.specs.declared.address.TheConstants.{TABLE_LENGTH}
use Rattle.pte.specs.Entry.{table_word}
use Rattle.walk.specs.Leads.{Tables}
use Rattle.spaces.specs.Layout.{Layout, is_frame, is_root, first_window_slot, window_ppn}

-- word i of each root
abbrev pub root_word : Layout → ℕ → ℕ
root_word l i =
    if nat_le (first_window_slot l) i then table_word (window_ppn l (i - first_window_slot l)) true
    else 0

-- there is a word i of the table at a PPN
abbrev pub is_word : Layout → ℕ → ℕ → Bool
is_word l ppn i = is_frame l ppn && nat_lt i TABLE_LENGTH

-- the word at the opening: of a root as above, of any other frame 0; and the memory of all these
-- words
abbrev pub first_word : Layout → ℕ → ℕ → ℕ
first_word l ppn i = if is_root l ppn then root_word l i else 0

abbrev pub opening : Layout → Tables
opening l ppn i = if is_word l ppn i then Some (first_word l ppn i) else None

-- the first n of these words, frame by frame
abbrev pub first_words : Layout → ℕ → List ℕ
first_words l zero = []
first_words l (suc n) =
    first_words l n ++ first_word l (l.base + n / TABLE_LENGTH) (n % TABLE_LENGTH) ∷ []
