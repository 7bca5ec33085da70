use Rattle.std.proofs.Common.{ℕ, ◌≡◌, ◌<◌, ◌≤◌, false}
use Rattle.std.specs.Option.{unwrap_or}
use Rattle.watch_tables.specs.InFrame.{word_in}
use Rattle.watch_tables.specs.Paths.{lacks_g}
use Rattle.watch_tables.specs.Stored.{value_of}
use Rattle.watch_tables.proofs.frame.Frame.next_lacking_g.Given as goal

-- no word before this one lacks G
abbrev pub invariant-loop-index : goal.invariant-loop-index
invariant-loop-index l = (n : ℕ) → l.fn.from ≤ n → n < l.index → lacks_g (unwrap_or (value_of (word_in l.self n)) 0) ≡ false
