use Rattle.std.proofs.Common.{◌∙◌, ap}
use Rattle.watch_causes.specs.Logs.{by_asked, reason_in}
use Rattle.watch_causes.proofs.reasons.reason_in.Goals as goal

pub returns : goal.returns
unfolding reason_in
returns c =
    c.reason.ensures
    ∙ ap (λ others. by_asked c.args.scheme others c.args.flusher c.args.hart c.args.entry.now c.args.fences.now) c.asks_any.ensures
