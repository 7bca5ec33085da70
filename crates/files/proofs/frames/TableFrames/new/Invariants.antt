use Rattle.std.proofs.Common.{◌≡◌, ℕ, take}
use Rattle.files.specs.Memory.{is_frame_of, word_at, word_in}
use Rattle.files.proofs.frames.TableFrames.new.Given as goal

abbrev pub invariant-loop-word : goal.invariant-loop-word
invariant-loop-word l = (ppn index : ℕ) → word_at l.tables ppn index ≡ word_in (is_frame_of l.fn.frames) (take l.word-index l.words) ppn index
