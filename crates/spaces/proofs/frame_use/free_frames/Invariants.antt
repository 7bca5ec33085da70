use Rattle.std.proofs.Common.{◌≡◌, ◌&&◌, ℕ, None, cond, length, slice_get}
use Rattle.std.specs.Prelude.{nat_lt}
use Rattle.spaces.specs.Held.{held_at}
use Rattle.spaces.specs.UnusedFrames.{AreMarked, marked_in}
use Rattle.spaces.specs.Holders.{is_held_for}
use Rattle.spaces.specs.declared.places.Place.TheVariants.{Space}
use Rattle.spaces.proofs.frame_use.free_frames.Given as goal

abbrev pub invariant-loop-at : goal.invariant-loop-at
invariant-loop-at l = record {
  length : length l.holders ≡ length l.fn.holders;
  holders : (n : ℕ) → held_at (slice_get l.holders n) ≡ cond (nat_lt n l.at && is_held_for (held_at (slice_get l.fn.holders n)) (Space l.space)) None (held_at (slice_get l.fn.holders n));
  marks : AreMarked (marked_in l.unused) l.holders;
}
