use Rattle.watch.specs.Trace.{index_of}
use Rattle.watch_engine.proofs.Below.{below_iff}
use Rattle.watch_engine.proofs.Lists.{same_truth}
use Rattle.watch_engine.proofs.touched.is_below.Goals as goal

pub returns : goal.returns
returns c = same_truth _ _ _ c.is_below.ensures (below_iff c.args.scheme (index_of c.args.address) c.args.page.now c.args.way.now)
