use Rattle.std.proofs.Common.{◌≡◌, ℕ, ◌/◌, cond, ◌&&◌, length, slice_get}
use Rattle.std.specs.Prelude.{nat_lt}
use Rattle.pte.specs.declared.address.TheConstants.{TABLE_LENGTH}
use Rattle.spaces.specs.Held.{held_at}
use Rattle.spaces.specs.Holders.{is_held_for, zero_word}
use Rattle.spaces.specs.declared.places.Place.TheVariants.{Space}
use Rattle.spaces.proofs.frames.empty_words.Given as goal

abbrev pub invariant-loop-frame : goal.invariant-loop-frame
invariant-loop-frame l = record {
  length : length l.words ≡ length l.fn.words;
  words : (n : ℕ) → slice_get l.words n
      ≡ cond (nat_lt (n / TABLE_LENGTH) l.frame && is_held_for (held_at (slice_get l.holders (n / TABLE_LENGTH))) (Space l.space)) (zero_word (slice_get l.fn.words n)) (slice_get l.fn.words n);
}
