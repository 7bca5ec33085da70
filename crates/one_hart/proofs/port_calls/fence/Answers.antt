use Rattle.one_hart.proofs.Dues.{fence_due}
use Rattle.one_hart.proofs.port_calls.fence.Goals as goal

pub returns : goal.returns
returns c = fence_due c.args.port.now c.fence.new.self c.args.rs1 c.args.rs2 c.of_call.result c.fence.ensures.after c.of_call.ensures
