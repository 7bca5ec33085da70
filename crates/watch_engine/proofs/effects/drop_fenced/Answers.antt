use Rattle.std.proofs.Common.{◌∙◌}
use Rattle.watch_engine.specs.Held.{outlives_fence}
use Rattle.watch_engine.proofs.Changing.{dropped}
use Rattle.watch_engine.proofs.effects.drop_fenced.Goals as goal

pub returns : goal.returns
returns c = c.apply.ensures.left ∙ dropped (outlives_fence c.args.scheme c.args.hart c.args.rs1 c.args.rs2) c.args.held.now c.apply.ensures.there
