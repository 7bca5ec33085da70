use Rattle.one_hart.proofs.Dues.{map_due}
use Rattle.one_hart.proofs.port_calls.map.Goals as goal

pub returns : goal.returns
returns c =
    let held = c.held.ensures.clean in
    map_due c.args.port.now c.map_step.new.self held.now held.has_view c.args.place c.args.page c.args.ppn c.args.flags c.map_step.result c.of_map.result c.recall.ensures
    c.map_step.ensures.answer c.map_step.ensures.after c.of_map.ensures
