use Rattle.std.proofs.Common.{rules, ap, pos}
use Rattle.melissaledge_c.specs.SizedTlbs.{beside, entries_of, fails, is_replaced, memory}
use Rattle.melissaledge_c.specs.Tlbs.{Dropped}
use Rattle.melissaledge_c.proofs.Whole.{dropped_by, replaced_with}
use Rattle.melissaledge_c.proofs.sized_tlb.replace.Goals as goal

pub returns-clause-replaces : goal.returns-clause-replaces
returns-clause-replaces c =
    let e = c.args.entry.now in
    let old = memory c.args.head.now c.args.slots.now in
    let between = memory c.drop_places-dropped.new.head c.drop_places-dropped.new.slots in
    let drops : Dropped old (beside e (entries_of old)) (pos c.drop_places-dropped.result) between =
    dropped_by (is_replaced e) old between (pos c.drop_places-dropped.result) c.requires c.drop_places-dropped.ensures.tlb c.drop_places-dropped.ensures.capacity
    (c.drop_places-dropped.ensures.places (fails (is_replaced e)) (λ given r told. search rules)) (ap pos c.drop_places-dropped.ensures.dropped) in
    replaced_with old between (memory c.fill.new.head c.fill.new.slots) e (pos c.drop_places-dropped.result) drops c.fill.ensures
