use Rattle.std.proofs.Common.{◌≡◌, ◌<◌, ◌≤◌, ◌*◌, ◌/◌, ◌%◌, ◌&&◌, ℕ, Some, cond, length, slice_get}
use Rattle.std.specs.Prelude.{nat_le, nat_lt}
use Rattle.pte.specs.declared.address.TheConstants.{TABLE_LENGTH}
use Rattle.spaces.specs.Layout.{frame_count, layout_of}
use Rattle.spaces.specs.Opening.{root_word}
use Rattle.spaces.proofs.frames.store_roots.Given as goal

abbrev pub invariant-loop-root : goal.invariant-loop-root
invariant-loop-root l = record {
  from : l.window ≤ l.root;
  length : length l.words ≡ frame_count (layout_of l.config) * TABLE_LENGTH;
  words : (n : ℕ) → n < frame_count (layout_of l.config) * TABLE_LENGTH
      → slice_get l.words n ≡ Some (cond (nat_le l.window (n / TABLE_LENGTH) && nat_lt (n / TABLE_LENGTH) l.root) (root_word (layout_of l.config) (n % TABLE_LENGTH)) 0);
}
