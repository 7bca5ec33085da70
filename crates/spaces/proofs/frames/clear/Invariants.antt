use Rattle.std.proofs.Common.{◌≡◌, ◌≤◌, ◌&&◌, ℕ, cond, length, slice_get}
use Rattle.std.specs.Prelude.{nat_le, nat_lt}
use Rattle.spaces.specs.Holders.{zero_word}
use Rattle.spaces.proofs.frames.clear.Given as goal

abbrev pub invariant-loop-at : goal.invariant-loop-at
invariant-loop-at l = record {
  from : l.fn.first ≤ l.at;
  length : length l.words ≡ length l.fn.words;
  words : (n : ℕ) → slice_get l.words n ≡ cond (nat_lt n l.at && nat_le l.fn.first n) (zero_word (slice_get l.fn.words n)) (slice_get l.fn.words n);
}
