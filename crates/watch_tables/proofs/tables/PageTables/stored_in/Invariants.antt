use Rattle.std.proofs.Common.{◌≤◌, ◌*◌, ◌-◌}
use Rattle.watch_tables.specs.FrameTables.{in_frames}
use Rattle.watch_tables.proofs.Filled.{Each, Sound}
use Rattle.watch_tables.proofs.tables.PageTables.stored_in.Given as goal

-- the addresses of the words in the frames before this one are there
abbrev pub invariant-loop-ppn : goal.invariant-loop-ppn
invariant-loop-ppn l = record {
  from : l.initial.from ≤ l.from;
  to : l.from ≤ l.end;
  sound : Sound (in_frames l.self.frames) (l.initial.from * 512) (l.from * 512) l.addresses.items;
  each : Each (in_frames l.self.frames) (l.initial.from * 512) (l.from * 512) l.addresses.items;
}

abbrev pub decreases-loop-ppn : goal.decreases-loop-ppn
decreases-loop-ppn l = l.end - l.from
