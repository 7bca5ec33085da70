use Rattle.std.proofs.Common.{◌≡◌, ℕ, ◌<◌, Some, slice_get}
use Rattle.stale.proofs.lasting.has_entry.Given as goal

abbrev pub invariant-loop-age : goal.invariant-loop-age
invariant-loop-age l = (k : ℕ) → k < l.age → slice_get l.tlb.entries k ≡ Some l.entry → ⊥
