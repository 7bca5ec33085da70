use Rattle.std.proofs.Common.{◌∙◌}
use Rattle.watch.specs.Trace.{index_of}
use Rattle.watch_engine.proofs.Untouched.{store_left}
use Rattle.watch_engine.specs.View.{view_of}
use Rattle.watch_engine.proofs.touched.settle_touched.Goals as goal

pub returns : goal.returns
returns g c =
    c.apply.ensures.left
    ∙ store_left (view_of c.args.view.now) (index_of c.args.address) c.args.ways.now c.args.held.now c.apply.ensures.there
