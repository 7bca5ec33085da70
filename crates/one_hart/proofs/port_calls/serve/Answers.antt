use Rattle.one_hart.proofs.Dues.{serve_due}
use Rattle.one_hart.proofs.port_calls.serve.Goals as goal

pub returns : goal.returns
returns c = serve_due c.args.port.now c.serve.new.self c.args.from c.serve.result c.of_service.result c.serve.ensures.no_hart c.serve.ensures.unchanged c.of_service.ensures
