use Rattle.spaces.proofs.LimitLemmas.{none_is}
use Rattle.spaces.proofs.configuration.Config.broken_limit.Goals as goal

pub returns-clause-limits : goal.returns-clause-limits
returns-clause-limits c = none_is _ c.args.self.now _ c.first_broken.ensures
