use Rattle.std.proofs.Common.{rules, ◌<◌, length, slice_index, sym}
use Rattle.std.proofs.lemmas.List.Edits.{map_over_more}
use Rattle.std.proofs.lemmas.Grind.{get_or_default_zero}
use Rattle.tlb.specs.Slots.{closed_up}
use Rattle.tlb.proofs.slots.close_up.Goals as goal

pub loop-age-preserved : goal.loop-age-preserved
loop-age-preserved c =
    let at = c.loop-age.age-index in
    let within : at < length c.args.ages.now = search rules in
    let within_now : at < length c.loop-age.ages = search rules in
    let age = slice_index c.loop-age.ages at in
    rw c.closed_up.ensures
    (map_over_more (closed_up c.args.dropped) c.args.ages.now c.loop-age.ages at age within c.loop-age.invariant (sym (get_or_default_zero c.loop-age.ages at age within_now)))
