use Rattle.std.proofs.Common.{◌∙◌, ap, sym, refl, arith}
use Rattle.std.specs.Ordering.{nat_cmp}
use Rattle.std.specs.BTreeMap.{get}
use Rattle.std.proofs.lemmas.Option.{slice_get_read}
use Rattle.watch_tables.proofs.FrameRows.{place-is}
use Rattle.watch_tables.proofs.frame_table.FrameTable.place_if_of.Goals as goal

pub returns-then-index-ppn : goal.returns-then-index-ppn
returns-then-index-ppn c =
    let here = slice_get_read c.args.self.now.row.items _ c.args.place c.index.result.now refl (omega arith) c.index.ensures in
    ap (get nat_cmp c.args.self.now.places) (sym c.if-index-ppn.true) ∙ place-is (get nat_cmp c.args.self.now.places) c.args.self.now.row.items c.args.self.now.in_step c.args.place c.index.result.now here
