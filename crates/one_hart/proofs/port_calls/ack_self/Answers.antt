use Rattle.one_hart.proofs.Dues.{ack_due}
use Rattle.one_hart.proofs.port_calls.ack_self.Goals as goal

pub returns : goal.returns
returns c = ack_due c.args.port.now c.ack_self.new.self c.args.ticket c.ack_self.result c.of_progress.result c.ack_self.ensures.answer c.ack_self.ensures.after c.of_progress.ensures
