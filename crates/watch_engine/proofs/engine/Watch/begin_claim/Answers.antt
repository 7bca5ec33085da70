use Rattle.watch_engine.proofs.PlainChanges.{claim_begin_stands}
use Rattle.watch_engine.proofs.engine.Watch.begin_claim.Goals as goal

pub returns-clause-ok : goal.returns-clause-ok
returns-clause-ok g c = λ hart trace at. claim_begin_stands at hart c.args.token c.args.claim _ c.in_ok-push.ensures.items
