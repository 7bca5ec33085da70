use Rattle.std.proofs.Common.{sym, ◌∙◌}
use Rattle.harts.proofs.Asking.{not_asked}
use Rattle.harts.proofs.shooting.ask.Goals as goal

pub returns-else-is_no_hart-clause-refused : goal.returns-else-is_no_hart-clause-refused
returns-else-is_no_hart-clause-refused c =
    not_asked c.args.port.now c.post.new.self c.args.ticket c.args.to c.post.result c.post.ensures.refused c.post.ensures.full c.in-Err.refusal c.in-Err.is
    (sym c.is_no_hart.ensures ∙ c.if-is_no_hart.false) c.in-Err.ensures.unchanged
