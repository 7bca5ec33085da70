use Rattle.one_hart.proofs.Dues.{unmap_due}
use Rattle.one_hart.proofs.port_calls.unmap.Goals as goal

pub returns : goal.returns
returns c =
    let held = c.held.ensures.clean in
    unmap_due c.args.port.now c.unmap.new.self held.now held.has_view c.args.place c.args.page c.args.named c.unmap.result c.of_opening.result c.recall.ensures
    c.unmap.ensures.answer c.unmap.ensures.after c.of_opening.ensures
