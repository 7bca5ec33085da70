use Rattle.std.proofs.Common.{◌≡◌, ◌∙◌, ◌<◌, ◌+◌, ap, refl, sym, None, Some, length, is_some, arith}
use Rattle.std.specs.Ordering.{nat_cmp}
use Rattle.std.specs.BTreeMap.{get}
use Rattle.std.proofs.lemmas.Option.{slice_get_read}
use Rattle.watch_tables.specs.Hints.{IsHinted}
use Rattle.watch_tables.proofs.Hinted.{each-moved, each-shorter}
use Rattle.watch_tables.proofs.FrameRows.{comes-from, frame-is, frames-moved, frames-shorter, has-elsewhere, has-there, moved-elsewhere, moved-has-place, moved-there, place-in-row, rest-of, step-moved, step-shorter}
use Rattle.watch_tables.proofs.frame_table.FrameTable.take_out.Goals as goal

pub swap_remove-gone-requires : goal.swap_remove-gone-requires
swap_remove-gone-requires c =
    let full = c.args.self.now.row.ok.0 in
    let low = place-in-row (get nat_cmp c.args.self.now.places) c.args.self.now.row.items c.args.self.now.in_step c.args.ppn c.in-Some.place (sym c.remove.ensures.value ∙ c.in-Some.is) in
    omega arith

pub invariant_of-self-then-place-len-clause-in_step : goal.invariant_of-self-then-place-len-clause-in_step
invariant_of-self-then-place-len-clause-in_step c =
    let row = c.args.self.now.row.items in
    let new = c.swap_remove-gone.new.self.items in
    let places = get nat_cmp c.args.self.now.places in
    let mid = get nat_cmp c.remove.new.self in
    let there = sym c.remove.ensures.value ∙ c.in-Some.is in
    let full = c.args.self.now.row.ok.0 in
    let left = c.swap_remove-gone.new.self.ok.0 in
    let shorter : length new + 1 ≡ length row = (let len = c.swap_remove-gone.ensures.len in omega arith) in
    let rest = rest-of row new c.in-Some.place _ c.swap_remove-gone.result full shorter (c.swap_remove-gone.ensures.by_index).1 in
    let gone = has-there places mid c.args.ppn None (c.remove.ensures.updates).0 in
    let others = has-elsewhere places mid c.args.ppn None (c.remove.ensures.updates).0 in
    step-shorter places mid row new c.args.self.now.in_step c.args.ppn c.in-Some.place there shorter rest gone others (c.if-place-len.true ∙ c.len.ensures ∙ left)

pub returns-then-place-len-clause-value : goal.returns-then-place-len-clause-value
returns-then-place-len-clause-value c =
    let there = sym c.remove.ensures.value ∙ c.in-Some.is in
    let low = place-in-row (get nat_cmp c.args.self.now.places) c.args.self.now.row.items c.args.self.now.in_step c.args.ppn c.in-Some.place there in
    sym (
    frame-is (get nat_cmp c.args.self.now.places) c.args.self.now.row.items c.args.self.now.in_step c.args.ppn c.in-Some.place c.swap_remove-gone.result there
    (slice_get_read c.args.self.now.row.items _ c.in-Some.place c.swap_remove-gone.result refl low c.swap_remove-gone.ensures.value)
    )

pub returns-then-place-len-clause-without : goal.returns-then-place-len-clause-without
returns-then-place-len-clause-without c =
    let row = c.args.self.now.row.items in
    let new = c.swap_remove-gone.new.self.items in
    let places = get nat_cmp c.args.self.now.places in
    let mid = get nat_cmp c.remove.new.self in
    let there = sym c.remove.ensures.value ∙ c.in-Some.is in
    let full = c.args.self.now.row.ok.0 in
    let left = c.swap_remove-gone.new.self.ok.0 in
    let shorter : length new + 1 ≡ length row = (let len = c.swap_remove-gone.ensures.len in omega arith) in
    let rest = rest-of row new c.in-Some.place _ c.swap_remove-gone.result full shorter (c.swap_remove-gone.ensures.by_index).1 in
    let gone = has-there places mid c.args.ppn None (c.remove.ensures.updates).0 in
    let others = has-elsewhere places mid c.args.ppn None (c.remove.ensures.updates).0 in
    frames-shorter places mid row new c.args.self.now.in_step c.args.ppn c.in-Some.place there shorter rest gone others (c.if-place-len.true ∙ c.len.ensures ∙ left)

pub index-requires : goal.index-requires
index-requires c =
    let there = sym c.remove.ensures.value ∙ c.in-Some.is in
    let low = place-in-row (get nat_cmp c.args.self.now.places) c.args.self.now.row.items c.args.self.now.in_step c.args.ppn c.in-Some.place there in
    let full = c.args.self.now.row.ok.0 in
    let one = c.swap_remove-gone.ensures.len in
    let apart = c.if-place-len.false in
    omega arith

pub move_to-requires : goal.move_to-requires
move_to-requires c =
    let row = c.args.self.now.row.items in
    let new = c.swap_remove-gone.new.self.items in
    let places = get nat_cmp c.args.self.now.places in
    let mid = get nat_cmp c.remove.new.self in
    let there = sym c.remove.ensures.value ∙ c.in-Some.is in
    let full = c.args.self.now.row.ok.0 in
    let left = c.swap_remove-gone.new.self.ok.0 in
    let shorter : length new + 1 ≡ length row = (let len = c.swap_remove-gone.ensures.len in omega arith) in
    let rest = rest-of row new c.in-Some.place _ c.swap_remove-gone.result full shorter (c.swap_remove-gone.ensures.by_index).1 in
    let gone = has-there places mid c.args.ppn None (c.remove.ensures.updates).0 in
    let others = has-elsewhere places mid c.args.ppn None (c.remove.ensures.updates).0 in
    let inside : c.in-Some.place < length new = (let low = place-in-row places row c.args.self.now.in_step c.args.ppn c.in-Some.place there in let apart = c.if-place-len.false in omega arith) in
    let comes = slice_get_read new _ c.in-Some.place c.index.result.now refl inside c.index.ensures in
    let was = comes-from row new c.in-Some.place _ c.index.result.now full shorter inside (c.swap_remove-gone.ensures.by_index).0 comes in
    ap is_some (moved-has-place places mid row new c.args.self.now.in_step c.args.ppn c.in-Some.place there shorter rest gone others inside c.index.result.now was comes)

pub invariant_of-self-2-clause-in_step : goal.invariant_of-self-2-clause-in_step
invariant_of-self-2-clause-in_step c =
    let row = c.args.self.now.row.items in
    let new = c.swap_remove-gone.new.self.items in
    let places = get nat_cmp c.args.self.now.places in
    let mid = get nat_cmp c.remove.new.self in
    let there = sym c.remove.ensures.value ∙ c.in-Some.is in
    let full = c.args.self.now.row.ok.0 in
    let left = c.swap_remove-gone.new.self.ok.0 in
    let shorter : length new + 1 ≡ length row = (let len = c.swap_remove-gone.ensures.len in omega arith) in
    let rest = rest-of row new c.in-Some.place _ c.swap_remove-gone.result full shorter (c.swap_remove-gone.ensures.by_index).1 in
    let gone = has-there places mid c.args.ppn None (c.remove.ensures.updates).0 in
    let others = has-elsewhere places mid c.args.ppn None (c.remove.ensures.updates).0 in
    let inside : c.in-Some.place < length new = (let low = place-in-row places row c.args.self.now.in_step c.args.ppn c.in-Some.place there in let apart = c.if-place-len.false in omega arith) in
    let comes = slice_get_read new _ c.in-Some.place c.index.result.now refl inside c.index.ensures in
    let was = comes-from row new c.in-Some.place _ c.index.result.now full shorter inside (c.swap_remove-gone.ensures.by_index).0 comes in
    let after = get nat_cmp c.move_to.new.places in
    let here = moved-there mid after c.index.result.now.ppn (Some c.in-Some.place) c.move_to.ensures in
    let elsewhere = moved-elsewhere mid after c.index.result.now.ppn (Some c.in-Some.place) c.move_to.ensures in
    step-moved places mid row new c.args.self.now.in_step c.args.ppn c.in-Some.place there shorter rest gone others inside c.index.result.now was comes after here elsewhere

pub returns-clause-value : goal.returns-clause-value
returns-clause-value c =
    let there = sym c.remove.ensures.value ∙ c.in-Some.is in
    let low = place-in-row (get nat_cmp c.args.self.now.places) c.args.self.now.row.items c.args.self.now.in_step c.args.ppn c.in-Some.place there in
    sym (
    frame-is (get nat_cmp c.args.self.now.places) c.args.self.now.row.items c.args.self.now.in_step c.args.ppn c.in-Some.place c.swap_remove-gone.result there
    (slice_get_read c.args.self.now.row.items _ c.in-Some.place c.swap_remove-gone.result refl low c.swap_remove-gone.ensures.value)
    )

pub returns-clause-without : goal.returns-clause-without
returns-clause-without c =
    let row = c.args.self.now.row.items in
    let new = c.swap_remove-gone.new.self.items in
    let places = get nat_cmp c.args.self.now.places in
    let mid = get nat_cmp c.remove.new.self in
    let there = sym c.remove.ensures.value ∙ c.in-Some.is in
    let full = c.args.self.now.row.ok.0 in
    let left = c.swap_remove-gone.new.self.ok.0 in
    let shorter : length new + 1 ≡ length row = (let len = c.swap_remove-gone.ensures.len in omega arith) in
    let rest = rest-of row new c.in-Some.place _ c.swap_remove-gone.result full shorter (c.swap_remove-gone.ensures.by_index).1 in
    let gone = has-there places mid c.args.ppn None (c.remove.ensures.updates).0 in
    let others = has-elsewhere places mid c.args.ppn None (c.remove.ensures.updates).0 in
    let inside : c.in-Some.place < length new = (let low = place-in-row places row c.args.self.now.in_step c.args.ppn c.in-Some.place there in let apart = c.if-place-len.false in omega arith) in
    let comes = slice_get_read new _ c.in-Some.place c.index.result.now refl inside c.index.ensures in
    let was = comes-from row new c.in-Some.place _ c.index.result.now full shorter inside (c.swap_remove-gone.ensures.by_index).0 comes in
    let after = get nat_cmp c.move_to.new.places in
    let here = moved-there mid after c.index.result.now.ppn (Some c.in-Some.place) c.move_to.ensures in
    let elsewhere = moved-elsewhere mid after c.index.result.now.ppn (Some c.in-Some.place) c.move_to.ensures in
    frames-moved places mid row new c.args.self.now.in_step c.args.ppn c.in-Some.place there shorter rest gone others inside c.index.result.now was comes after here elsewhere

pub invariant_of-self-then-place-len-clause-hinted : goal.invariant_of-self-then-place-len-clause-hinted
invariant_of-self-then-place-len-clause-hinted c =
    let row = c.args.self.now.row.items in
    let new = c.swap_remove-gone.new.self.items in
    let full = c.args.self.now.row.ok.0 in
    let left = c.swap_remove-gone.new.self.ok.0 in
    let shorter : length new + 1 ≡ length row = (let len = c.swap_remove-gone.ensures.len in omega arith) in
    let rest = rest-of row new c.in-Some.place _ c.swap_remove-gone.result full shorter (c.swap_remove-gone.ensures.by_index).1 in
    each-shorter (IsHinted c.args.self.now.hints) (IsHinted c.args.self.now.hints) row new c.args.self.now.hinted (λ k has. has) c.in-Some.place rest (c.if-place-len.true ∙ c.len.ensures ∙ left)

pub invariant_of-self-2-clause-hinted : goal.invariant_of-self-2-clause-hinted
invariant_of-self-2-clause-hinted c =
    let row = c.args.self.now.row.items in
    let new = c.swap_remove-gone.new.self.items in
    let there = sym c.remove.ensures.value ∙ c.in-Some.is in
    let full = c.args.self.now.row.ok.0 in
    let left = c.swap_remove-gone.new.self.ok.0 in
    let shorter : length new + 1 ≡ length row = (let len = c.swap_remove-gone.ensures.len in omega arith) in
    let rest = rest-of row new c.in-Some.place _ c.swap_remove-gone.result full shorter (c.swap_remove-gone.ensures.by_index).1 in
    let inside : c.in-Some.place < length new = (let low = place-in-row (get nat_cmp c.args.self.now.places) row c.args.self.now.in_step c.args.ppn c.in-Some.place there in let apart = c.if-place-len.false in omega arith) in
    let comes = slice_get_read new _ c.in-Some.place c.index.result.now refl inside c.index.ensures in
    each-moved (IsHinted c.args.self.now.hints) (IsHinted c.set.new.self) row new c.args.self.now.hinted c.set.ensures.kept c.in-Some.place rest c.index.result.now comes c.set.ensures.own
