-- Which PPNs have a hint.
use Rattle.std.specs.Prelude.{ℕ, ◌≡◌, ◌≢◌, ◌*◌, ◌/◌, ◌%◌, ◌^◌, ◌-◌, Some, List, length, slice_get, bit_and}
use Rattle.watch_tables.specs.declared.hints.Hints.{Hints}
use Rattle.watch_tables.specs.declared.hints.TheConstants.{NO_PLACE, SPREAD}
use Rattle.watch_tables.specs.declared.frame_table.PlacedFrame.{PlacedFrame}
use Rattle.watch_tables.specs.FrameRow.{ppn_at}

-- the hash of a PPN where there are this many hints
unfoldable pub hash : ℕ → ℕ → ℕ
hash count ppn = bit_and (ppn * SPREAD % 2 ^ 64 / 2 ^ 32) (count - 1)

-- the hint of a PPN is a place, or there are no hints
abbrev pub IsIn : List ℕ → ℕ → Type 0
IsIn places ppn = slice_get places (hash (length places) ppn) ≢ Some NO_PLACE

abbrev pub IsHinted : Hints → ℕ → Type 0
IsHinted hints ppn = IsIn hints.places.items ppn

-- each frame of a row is
abbrev pub AreHinted : Hints → List PlacedFrame → Type 0
AreHinted hints row = (place ppn : ℕ) → ppn_at row place ≡ Some ppn → IsHinted hints ppn
