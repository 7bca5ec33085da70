use Rattle.std.proofs.Common.{refl}
use Rattle.watch_engine.specs.Left.{is_full}
use Rattle.watch_engine.proofs.FenceChanges.{own_stands}
use Rattle.watch_engine.proofs.engine.Watch.fence.Goals as goal

pub returns-clause-ok : goal.returns-clause-ok
returns-clause-ok g c = λ trace at. own_stands at c.args.hart c.args.rs1 c.args.rs2 (is_full c.args.rs1 c.args.rs2) refl _ c.drop_fenced.ensures _ c.in_ok-add_fence.ensures.left _ c.in_ok-add_fence.ensures.drops
