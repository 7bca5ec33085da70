use Rattle.std.proofs.Common.{◌∙◌, ap}
use Rattle.melissaledge_c.specs.SizedTlbs.{filled_to, memory, places}
use Rattle.melissaledge_c.proofs.Whole.{filled_with}
use Rattle.melissaledge_c.proofs.sized_tlb.fill.Goals as goal

pub returns : goal.returns
returns c =
    let head = c.args.head.now in let slots = c.args.slots.now in
    filled_with (memory head slots) (memory c.add.new.head c.add.new.slots) c.args.entry.now c.recall.ensures c.add.ensures.tlb c.add.ensures.capacity
    (c.add.ensures.places ∙ ap (filled_to head.capacity (places head slots)) c.of.ensures)
