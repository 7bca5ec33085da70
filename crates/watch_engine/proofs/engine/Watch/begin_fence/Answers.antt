use Rattle.watch_engine.proofs.PlainChanges.{remote_begin_stands}
use Rattle.watch_engine.proofs.engine.Watch.begin_fence.Goals as goal

pub returns-clause-ok : goal.returns-clause-ok
returns-clause-ok g c = λ hart trace at. remote_begin_stands at hart c.args.token c.args.fence _ c.in_ok-push.ensures.items
