use Rattle.one_hart.proofs.Dues.{close_due}
use Rattle.one_hart.proofs.port_calls.close_to.Goals as goal

pub returns : goal.returns
returns c = close_due c.args.port.now c.close_to.new.self c.args.to c.close_to.result c.of_call.result c.close_to.ensures.answer c.close_to.ensures.after c.of_call.ensures
