use Rattle.one_hart.proofs.Dues.{translate_due}
use Rattle.one_hart.proofs.port_calls.translate.Goals as goal

pub returns : goal.returns
returns c =
    let held = c.held.ensures.clean in
    translate_due c.args.port.now c.translate.new.self held.now held.has_view c.args.va c.args.access c.args.ctx c.translate.result c.of_translation.result
    c.translate.ensures.not_canonical c.translate.ensures.hit c.translate.ensures.miss c.of_translation.ensures
