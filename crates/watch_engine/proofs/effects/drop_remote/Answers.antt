use Rattle.std.proofs.Common.{◌∙◌}
use Rattle.watch_engine.specs.Held.{outlives_remote}
use Rattle.watch_engine.proofs.Changing.{dropped}
use Rattle.watch_engine.proofs.effects.drop_remote.Goals as goal

pub returns : goal.returns
returns c = c.apply.ensures.left ∙ dropped (outlives_remote c.args.scheme c.args.fence.now) c.args.held.now c.apply.ensures.there
