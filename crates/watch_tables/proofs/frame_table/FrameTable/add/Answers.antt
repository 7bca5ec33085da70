use Rattle.std.proofs.Common.{◌∙◌, ap, refl, Some}
use Rattle.std.specs.Ordering.{nat_cmp}
use Rattle.std.specs.BTreeMap.{get}
use Rattle.watch_tables.specs.FrameRow.{ppn_at}
use Rattle.watch_tables.specs.Hints.{IsHinted}
use Rattle.watch_tables.proofs.Hinted.{each-with}
use Rattle.watch_tables.proofs.FrameRows.{frames-with, has-elsewhere, has-there, if-fine, no-place, step-with}
use Rattle.watch_tables.proofs.frame_table.FrameTable.add.Goals as goal

pub invariant_of-self-2-clause-in_step : goal.invariant_of-self-2-clause-in_step
invariant_of-self-2-clause-in_step c =
    let places = get nat_cmp c.args.self.now.places in
    let after = get nat_cmp c.insert.new.self in
    let updates = (if-fine c.insert.result c.is_err.result c.is_err.ensures.value c.if-is_err.false c.insert.ensures.updates).0 in
    let none = no-place places c.args.self.now.row.items c.args.self.now.in_step c.args.ppn (places c.args.ppn) refl c.requires in
    step-with places after c.args.self.now.row.items c.push.new.self.items c.args.self.now.in_step (record { ppn = c.args.ppn; frame = c.args.frame }) none c.in_ok-push.ensures.items
    (has-there places after c.args.ppn (Some c.len-place.result) updates ∙ ap Some (c.len-place.ensures ∙ c.args.self.now.row.ok.0)) (has-elsewhere places after c.args.ppn (Some c.len-place.result) updates)

pub returns-clause-ok : goal.returns-clause-ok
returns-clause-ok c =
    let places = get nat_cmp c.args.self.now.places in
    let after = get nat_cmp c.insert.new.self in
    let updates = (if-fine c.insert.result c.is_err.result c.is_err.ensures.value c.if-is_err.false c.insert.ensures.updates).0 in
    let none = no-place places c.args.self.now.row.items c.args.self.now.in_step c.args.ppn (places c.args.ppn) refl c.requires in
    frames-with places after c.args.self.now.row.items c.push.new.self.items c.args.self.now.in_step (record { ppn = c.args.ppn; frame = c.args.frame }) none c.in_ok-push.ensures.items
    (has-there places after c.args.ppn (Some c.len-place.result) updates ∙ ap Some (c.len-place.ensures ∙ c.args.self.now.row.ok.0)) (has-elsewhere places after c.args.ppn (Some c.len-place.result) updates)

pub spread-requires : goal.spread-requires
spread-requires c =
    each-with (IsHinted c.args.self.now.hints) (IsHinted c.set.new.self) c.args.self.now.row.items c.as_slice.result.now c.args.self.now.hinted c.set.ensures.kept (record { ppn = c.args.ppn; frame = c.args.frame }) (c.as_slice.ensures.value ∙ c.in_ok-push.ensures.items) c.set.ensures.own

pub invariant_of-self-2-clause-hinted : goal.invariant_of-self-2-clause-hinted
invariant_of-self-2-clause-hinted c = λ place ppn is. c.spread.ensures place ppn (ap (λ row. ppn_at row place) c.as_slice.ensures.value ∙ is)
