use Rattle.std.proofs.Common.{rules, ap, pos}
use Rattle.tlb.specs.Service.{is_dropped}
use Rattle.melissaledge_c.specs.SizedTlbs.{fails, memory}
use Rattle.melissaledge_c.proofs.Whole.{dropped_by}
use Rattle.melissaledge_c.proofs.sized_tlb.serve.Goals as goal

pub returns-clause-drops : goal.returns-clause-drops
returns-clause-drops c =
    let test = is_dropped c.args.what.now in
    dropped_by test (memory c.args.head.now c.args.slots.now) (memory c.drop_places.new.head c.drop_places.new.slots) (pos c.drop_places.result) c.requires c.drop_places.ensures.tlb c.drop_places.ensures.capacity
    (c.drop_places.ensures.places (fails test) (λ given r told. search rules)) (ap pos c.drop_places.ensures.dropped)
