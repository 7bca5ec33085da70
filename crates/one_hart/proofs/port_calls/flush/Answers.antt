use Rattle.one_hart.proofs.Dues.{flush_due}
use Rattle.one_hart.proofs.port_calls.flush.Goals as goal

pub returns : goal.returns
returns c = flush_due c.args.port.now c.flush.new.self c.args.scope c.args.named c.flush.result c.of_opening.result c.flush.ensures.answer c.flush.ensures.after c.of_opening.ensures
