use Rattle.std.proofs.Common.{Bor, List, ℕ}
use Rattle.files.specs.Memory.{is_frame_of}
use Rattle.files.specs.WalkFile.{word_of}
use Rattle.files.proofs.EachLemmas.{EachSoFar}
use Rattle.files.proofs.walk_file.table_words.Given as goal

abbrev pub invariant-loop-text : goal.invariant-loop-text
invariant-loop-text l = EachSoFar (λ (text : Bor (List ℕ)). word_of (is_frame_of l.frames) text.now) l.texts l.text-index l.words.items
