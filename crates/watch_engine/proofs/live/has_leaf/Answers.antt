use Rattle.watch.proofs.Computed.{leaf_iff}
use Rattle.watch_engine.proofs.Lists.{same_truth}
use Rattle.watch_engine.proofs.live.has_leaf.Goals as goal

pub returns : goal.returns
returns g c = same_truth _ _ _ c.has_leaf.ensures (leaf_iff c.args.scheme (g.T.Tables.words c.args.tables.now) c.args.root c.args.entry.now)
