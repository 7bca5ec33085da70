use Rattle.std.proofs.Common.{◌≡◌, ◌≤◌, ◌/◌, ◌%◌, ◌==◌, ◌&&◌, ℕ, Some, cond, length, slice_get}
use Rattle.std.specs.Prelude.{nat_le, nat_lt}
use Rattle.pte.specs.declared.address.TheConstants.{TABLE_LENGTH}
use Rattle.spaces.specs.Layout.{first_window_slot, layout_of}
use Rattle.spaces.specs.Opening.{root_word}
use Rattle.spaces.proofs.frames.store_root.Given as goal

abbrev pub invariant-loop-index : goal.invariant-loop-index
invariant-loop-index l = record {
  from : l.first_slot ≤ l.index;
  length : length l.words ≡ length l.fn.words;
  words : (n : ℕ) → slice_get l.words n
      ≡ cond ((n / TABLE_LENGTH == l.root) && (nat_le (first_window_slot (layout_of l.config)) (n % TABLE_LENGTH) && nat_lt (n % TABLE_LENGTH) l.index)) (Some (root_word (layout_of l.config) (n % TABLE_LENGTH))) (slice_get l.fn.words n);
}
