-- Frames in a row, and the place of each PPN.
use Rattle.std.specs.Prelude.{ℕ, ◌≡◌, ◌↔◌, List, Option, None, Some, slice_get}
use Rattle.std.specs.Option.{option_map}
use Rattle.watch_tables.specs.declared.frame.Frame.{Frame}
use Rattle.watch_tables.specs.declared.frame_table.PlacedFrame.{PlacedFrame}

-- the PPN of the frame at a place
abbrev pub ppn_at : List PlacedFrame → ℕ → Option ℕ
ppn_at row place = option_map (λ (f : PlacedFrame). f.ppn) (slice_get row place)

-- the frame at a place that may not be there
abbrev pub frame_at : List PlacedFrame → Option ℕ → Option Frame
frame_at row None = None
frame_at row (Some place) = option_map (λ (f : PlacedFrame). f.frame) (slice_get row place)

-- each PPN has the place where its frame stands
abbrev pub IsInStep : (ℕ → Option ℕ) → List PlacedFrame → Type 0
IsInStep place_of row = (ppn place : ℕ) → (place_of ppn ≡ Some place) ↔ (ppn_at row place ≡ Some ppn)
