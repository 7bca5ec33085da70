use Rattle.std.proofs.Common.{refl, arith}
use Rattle.std.specs.Ordering.{nat_cmp}
use Rattle.std.specs.BTreeMap.{get}
use Rattle.std.proofs.lemmas.Option.{slice_get_read}
use Rattle.watch_tables.proofs.FrameRows.{frame-is, place-in-row}
use Rattle.watch_tables.proofs.frame_table.FrameTable.first_from.Goals as goal

pub index-requires : goal.index-requires
index-requires c =
    let full = c.args.self.now.row.ok.0 in
    let low = place-in-row (get nat_cmp c.args.self.now.places) c.args.self.now.row.items c.args.self.now.in_step c.in-Some.ppn c.in-Some.place c.in-Some.ensures.present in
    omega arith

pub returns-in-Some-clause-present : goal.returns-in-Some-clause-present
returns-in-Some-clause-present c =
    let low = place-in-row (get nat_cmp c.args.self.now.places) c.args.self.now.row.items c.args.self.now.in_step c.in-Some.ppn c.in-Some.place c.in-Some.ensures.present in
    frame-is (get nat_cmp c.args.self.now.places) c.args.self.now.row.items c.args.self.now.in_step c.in-Some.ppn c.in-Some.place c.index.result.now c.in-Some.ensures.present
    (slice_get_read c.args.self.now.row.items _ c.in-Some.place c.index.result.now refl low c.index.ensures)
