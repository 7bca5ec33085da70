use Rattle.std.proofs.Common.{ℕ, ◌≢◌, ◌<◌, Some}
use Rattle.watch_tables.specs.IndexedWords.{index_at}
use Rattle.watch_tables.proofs.frame.place_among.Given as goal

-- no word before this one has the index
abbrev pub invariant-loop-place : goal.invariant-loop-place
invariant-loop-place l = (p : ℕ) → p < l.place → index_at l.words p ≢ Some l.index
