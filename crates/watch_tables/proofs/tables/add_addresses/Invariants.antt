use Rattle.std.proofs.Common.{◌-◌, ◌≤◌}
use Rattle.watch_tables.proofs.FrameAddresses.{Added}
use Rattle.watch_tables.proofs.tables.add_addresses.Given as goal

-- the addresses of the words before this one are there
abbrev pub invariant-loop-index : goal.invariant-loop-index
invariant-loop-index l = record {
  from : l.from ≤ 512;
  added : Added l.frame l.ppn l.fn.addresses.items l.from l.addresses.items;
}

abbrev pub decreases-loop-index : goal.decreases-loop-index
decreases-loop-index l = 512 - l.from
