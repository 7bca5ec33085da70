use Rattle.watch_tables.specs.IndexedWords.{ArePlaces}
use Rattle.watch_tables.proofs.FrameWords.{index_below}
use Rattle.watch_tables.proofs.frame.place_each.Given as goal

abbrev pub invariant-loop-place : goal.invariant-loop-place
invariant-loop-place l = ArePlaces (index_below l.words l.place) l.places
