use Rattle.std.proofs.Common.{ℕ, ◌≡◌, ◌<◌, ◌≤◌, None}
use Rattle.watch_tables.specs.InFrame.{word_in}
use Rattle.watch_tables.proofs.frame.Frame.next_word.Given as goal

-- no word before this one is stored
abbrev pub invariant-loop-index : goal.invariant-loop-index
invariant-loop-index l = (n : ℕ) → l.fn.from ≤ n → n < l.index → word_in l.self n ≡ None
