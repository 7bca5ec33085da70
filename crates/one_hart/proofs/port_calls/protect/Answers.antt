use Rattle.one_hart.proofs.Dues.{protect_due}
use Rattle.one_hart.proofs.port_calls.protect.Goals as goal

pub returns : goal.returns
returns c =
    let held = c.held.ensures.clean in
    protect_due c.args.port.now c.protect.new.self held.now held.has_view c.args.place c.args.page c.args.flags c.args.named c.protect.result c.of_opening.result c.recall.ensures
    c.protect.ensures.answer c.protect.ensures.after c.of_opening.ensures
