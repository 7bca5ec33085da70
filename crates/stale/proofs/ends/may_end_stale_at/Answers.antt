use Rattle.std.proofs.Common.{sym, ◌∙◌}
use Rattle.stale.proofs.Unchanged.{unchanged_at}
use Rattle.stale.proofs.ends.may_end_stale_at.Goals as goal

pub returns-clause-kept : goal.returns-clause-kept
returns-clause-kept c = λ plain. unchanged_at c.args.event.now c.args.reply.now c.args.hart (sym c.may_change_at.ensures ∙ plain)
