use Rattle.one_hart.proofs.Dues.{switch_due}
use Rattle.one_hart.proofs.port_calls.switch.Goals as goal

pub returns : goal.returns
returns c = switch_due c.args.port.now c.switch.new.self c.args.space c.switch.result c.of_call.result c.switch.ensures.answer c.switch.ensures.after c.of_call.ensures
