use Rattle.std.proofs.Common.{ℕ, ◌<◌, ◌≤◌, ◌-◌}
use Rattle.stale.specs.Mapped.{IsMappedFrom, mapping_of}
use Rattle.stale.proofs.lasting.unmapped_from.Given as goal

abbrev pub invariant-loop-number : goal.invariant-loop-number
invariant-loop-number l = record {
  from : l.from ≤ l.number;
  mapped : (n : ℕ) → l.from ≤ n → n < l.number → n < l.to → IsMappedFrom l.memory l.space (mapping_of l.entry n);
}

abbrev pub decreases-loop-number : goal.decreases-loop-number
decreases-loop-number l = l.to - l.number
