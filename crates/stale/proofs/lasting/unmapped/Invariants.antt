use Rattle.std.proofs.Common.{ℕ, ◌<◌, ◌≤◌}
use Rattle.stale.specs.Mapped.{mapping_of}
use Rattle.stale.proofs.Seen.{Seen}
use Rattle.stale.proofs.lasting.unmapped.Given as goal

abbrev pub invariant-loop-space : goal.invariant-loop-space
invariant-loop-space l = (n : ℕ) → l.from ≤ n → n < l.to → Seen l.machine (mapping_of l.entry n) l.space l.is_some
