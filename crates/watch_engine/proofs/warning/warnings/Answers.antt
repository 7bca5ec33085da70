use Rattle.std.proofs.Common.{◌∙◌, [], sym, rules}
use Rattle.watch_engine.proofs.Marking.{none_joined}
use Rattle.watch_engine.proofs.warning.warnings.Goals as goal

pub returns-then-not-may_concern : goal.returns-then-not-may_concern
returns-then-not-may_concern c = c.new.ensures.items ∙ sym (none_joined c.args.cause.now c.args.held.now [] (c.may_concern.ensures (search rules)))
