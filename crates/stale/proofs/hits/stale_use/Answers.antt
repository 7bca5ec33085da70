use Rattle.std.proofs.Common.{sym, ◌∙◌}
use Rattle.stale.proofs.hits.stale_use.Goals as goal

pub returns-then-is_hit : goal.returns-then-is_hit
returns-then-is_hit c = λ C H h p. rw c.in-Begin.is (λ stands. c.use_of.ensures C H c.args.reply.now h p stands (sym c.is_hit.ensures ∙ c.if-is_hit.true))
