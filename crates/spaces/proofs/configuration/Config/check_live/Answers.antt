use Rattle.spaces.proofs.LimitLemmas.{tested_is}
use Rattle.spaces.proofs.configuration.Config.check_live.Goals as goal

pub returns-clause-value : goal.returns-clause-value
returns-clause-value c = tested_is _ c.args.self.now _ _ c.is_none.ensures c.broken_live_limit.ensures.limits
