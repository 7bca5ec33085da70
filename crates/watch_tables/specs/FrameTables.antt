-- The frames of a table of frames.
use Rattle.std.specs.Prelude.{ℕ, ◌/◌, ◌%◌, Option, length}
use Rattle.std.specs.Ordering.{nat_cmp}
use Rattle.std.specs.BTreeMap.{get}
use Rattle.pte.specs.declared.address.TheConstants.{TABLE_LENGTH}
use Rattle.watch_tables.specs.declared.frame.Frame.{Frame}
use Rattle.watch_tables.specs.declared.frame.StoredWord.{StoredWord}
use Rattle.watch_tables.specs.declared.frame_table.FrameTable.{FrameTable}
use Rattle.watch_tables.specs.FrameRow.{frame_at}
use Rattle.watch_tables.specs.InFrame.{word_of}

-- the frame of a PPN
abbrev pub frame_of : FrameTable → ℕ → Option Frame
frame_of frames ppn = frame_at frames.row.items (get nat_cmp frames.places ppn)

-- how many frames there are
abbrev pub frame_count : FrameTable → ℕ
frame_count frames = length frames.row.items

-- what frames, by their PPN, have under the number of a word
abbrev pub in_frames : FrameTable → ℕ → Option StoredWord
in_frames frames number = word_of (frame_of frames (number / TABLE_LENGTH)) (number % TABLE_LENGTH)
