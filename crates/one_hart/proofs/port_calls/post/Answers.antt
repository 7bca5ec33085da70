use Rattle.one_hart.proofs.Dues.{post_due}
use Rattle.one_hart.proofs.port_calls.post.Goals as goal

pub returns : goal.returns
returns c = post_due c.args.port.now c.post.new.self c.args.ticket c.args.to c.post.result c.of_call.result c.post.ensures.refused c.post.ensures.unchanged c.of_call.ensures
