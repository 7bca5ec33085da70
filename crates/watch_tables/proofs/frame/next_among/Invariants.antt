use Rattle.std.proofs.Common.{true}
use Rattle.watch_tables.specs.declared.frame.StoredWord.{StoredWord}
use Rattle.watch_tables.proofs.FrameWords.{IsLeast}
use Rattle.watch_tables.proofs.frame.next_among.Given as goal

abbrev pub invariant-loop-word : goal.invariant-loop-word
invariant-loop-word l = IsLeast l.words (λ (_ : StoredWord). true) l.fn.from l.word-index l.least l.stored
