use Rattle.std.proofs.Common.{sym, ◌∙◌}
use Rattle.stale.proofs.Unchanged.{unchanged}
use Rattle.stale.proofs.ends.may_end_stale.Goals as goal

pub returns-clause-kept : goal.returns-clause-kept
returns-clause-kept c = λ plain. unchanged c.args.event.now c.args.reply.now (sym c.may_change.ensures ∙ plain)
