use Rattle.std.proofs.Common.{ap, refl, sym, ◌∙◌, arith}
use Rattle.std.specs.Option.{unwrap_or}
use Rattle.std.specs.Ordering.{nat_cmp}
use Rattle.std.specs.BTreeMap.{get}
use Rattle.std.proofs.lemmas.Option.{slice_get_read}
use Rattle.watch_tables.specs.Stored.{value_of}
use Rattle.watch_tables.specs.InFrame.{word_of}
use Rattle.watch_tables.proofs.FrameRows.{frame-is, place-in-row}
use Rattle.watch_tables.proofs.frame_table.FrameTable.mapped_value.Goals as goal

pub index-requires : goal.index-requires
index-requires c =
    let full = c.args.self.now.row.ok.0 in
    let there = sym c.mapped_place.ensures ∙ c.in-Some.is in
    let low = place-in-row (get nat_cmp c.args.self.now.places) c.args.self.now.row.items c.args.self.now.in_step c.args.ppn c.in-Some.place there in
    omega arith

pub returns-in-Some : goal.returns-in-Some
returns-in-Some c =
    let there = sym c.mapped_place.ensures ∙ c.in-Some.is in
    let low = place-in-row (get nat_cmp c.args.self.now.places) c.args.self.now.row.items c.args.self.now.in_step c.args.ppn c.in-Some.place there in
    let frame = frame-is (get nat_cmp c.args.self.now.places) c.args.self.now.row.items c.args.self.now.in_step c.args.ppn c.in-Some.place c.index.result.now there
    (slice_get_read c.args.self.now.row.items _ c.in-Some.place c.index.result.now refl low c.index.ensures) in
    c.value.ensures ∙ sym (ap (λ f. unwrap_or (value_of (word_of f c.args.index)) 0) frame)
