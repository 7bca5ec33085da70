use Rattle.watch_tables.specs.declared.frame.StoredWord.{StoredWord}
use Rattle.watch_tables.specs.Paths.{lacks_g}
use Rattle.watch_tables.proofs.FrameWords.{IsLeast}
use Rattle.watch_tables.proofs.frame.next_lacking_g_among.Given as goal

abbrev pub invariant-loop-word : goal.invariant-loop-word
invariant-loop-word l = IsLeast l.words (λ (s : StoredWord). lacks_g s.word) l.fn.from l.word-index l.least l.stored
