-- Memory of frames that lie one behind the other.
use Rattle.std.specs.Prelude.{ℕ, ◌+◌, ◌-◌, ◌*◌, ◌&&◌, nat_le, nat_lt, if◌then◌else◌, List, Option, None}
use Rattle.std.specs.List.{slice_get}
use Rattle.pte.specs.declared.address.TheConstants.{TABLE_LENGTH}

-- the word at an index of the frame with a PPN, where the frames from the base on have these words
abbrev pub flat_words : ℕ → ℕ → List ℕ → ℕ → ℕ → Option ℕ
flat_words base frames words ppn index =
    if nat_le base ppn && nat_lt ppn (base + frames)
    then slice_get words ((ppn - base) * TABLE_LENGTH + index) else None
