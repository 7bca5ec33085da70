use Rattle.std.proofs.Common.{◌-◌, ◌≤◌}
use Rattle.watch_tables.specs.Pointers.{has_pointer}
use Rattle.watch_tables.proofs.FramePointers.{Left, Taken}
use Rattle.watch_tables.proofs.tables.remove_pointers.Given as goal

-- the pointers before this word are taken out
abbrev pub invariant-loop-index : goal.invariant-loop-index
invariant-loop-index l = record {
  from : l.from ≤ 512;
  taken : Taken l.frame l.ppn (has_pointer l.fn.pointers) l.from (has_pointer l.pointers);
  left : Left l.frame l.ppn (has_pointer l.fn.pointers) l.from (has_pointer l.pointers);
}

abbrev pub decreases-loop-index : goal.decreases-loop-index
decreases-loop-index l = 512 - l.from
