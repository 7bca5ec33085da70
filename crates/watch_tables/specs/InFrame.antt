-- What a frame has at an index, and at which addresses its words stand.
use Rattle.std.specs.Prelude.{ℕ, ◌≡◌, ◌<◌, ◌+◌, ◌*◌, IsSome, Option, None, Some}
use Rattle.pte.specs.declared.address.TheConstants.{TABLE_LENGTH}
use Rattle.watch_tables.specs.declared.frame.Frame.{Frame}
use Rattle.watch_tables.specs.declared.frame.StoredWord.{StoredWord}
use Rattle.watch_tables.specs.IndexedWords.{stored_at}

-- what is stored at an index of a frame
abbrev pub word_in : Frame → ℕ → Option StoredWord
word_in frame index = stored_at frame.words.items index

-- the same, of a frame that may not be there
abbrev pub word_of : Option Frame → ℕ → Option StoredWord
word_of None index = None
word_of (Some frame) index = word_in frame index

-- the physical address is that of a word of the frame at a PPN that is not 0, at an index below this one
pub record IsOfFrame (frame : Frame) (ppn below address : ℕ) : Type 0 where
  pub index : ℕ
  pub small : index < below
  pub is : address ≡ (ppn * TABLE_LENGTH + index) * 8
  pub filled : IsSome (word_in frame index)
