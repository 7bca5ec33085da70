use Rattle.one_hart.proofs.Dues.{finish_due}
use Rattle.one_hart.proofs.port_calls.finish.Goals as goal

pub returns : goal.returns
returns c = finish_due c.args.port.now c.finish.new.self c.args.ticket c.finish.result c.of_call.result c.finish.ensures.answer c.finish.ensures.after c.of_call.ensures
