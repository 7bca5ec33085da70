use Rattle.std.proofs.Common.{refl}
use Rattle.std.specs.Ordering.{nat_cmp}
use Rattle.std.specs.BTreeMap.{get}
use Rattle.watch_tables.specs.Hints.{IsHinted}
use Rattle.watch_tables.proofs.Hinted.{no-frame}
use Rattle.watch_tables.proofs.frame_table.FrameTable.mapped_place.Goals as goal

pub returns-then-get : goal.returns-then-get
returns-then-get c =
    no-frame (get nat_cmp c.args.self.now.places) c.args.self.now.row.items c.args.self.now.in_step (IsHinted c.args.self.now.hints) c.args.self.now.hinted c.args.ppn (c.get.ensures c.if-get.true) _ refl
