use Rattle.walk.specs.Maps.{page_number}
use Rattle.stale.specs.Mapped.{mapping_of}
use Rattle.stale.proofs.Seen.{Seen}
use Rattle.stale.proofs.mapped.is_mapped.Given as goal

abbrev pub invariant-loop-space : goal.invariant-loop-space
invariant-loop-space l = Seen l.machine (mapping_of l.entry (page_number l.va)) l.space l.is_some
