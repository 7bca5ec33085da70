use Rattle.one_hart.proofs.Dues.{collect_due}
use Rattle.one_hart.proofs.port_calls.collect.Goals as goal

pub returns : goal.returns
returns c =
    collect_due c.args.port.now c.collect.new.self c.args.ticket c.collect.result c.of_progress.result c.collect.ensures.not_open c.collect.ensures.answer c.collect.ensures.after c.of_progress.ensures
