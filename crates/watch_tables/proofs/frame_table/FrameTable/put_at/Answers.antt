use Rattle.std.proofs.Common.{◌/◌}
use Rattle.std.specs.Ordering.{nat_cmp}
use Rattle.std.specs.BTreeMap.{get}
use Rattle.watch_tables.proofs.FrameRows.{place-in-row}
use Rattle.watch_tables.proofs.frame_table.FrameTable.put_at.Goals as goal

pub put_in-requires-clause-place : goal.put_in-requires-clause-place
put_in-requires-clause-place c = place-in-row (get nat_cmp c.args.self.now.places) c.args.self.now.row.items c.args.self.now.in_step (c.args.number / 512) c.args.place c.requires
