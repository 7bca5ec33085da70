use Rattle.watch.proofs.Computed.{mapped_iff}
use Rattle.watch_engine.proofs.Lists.{same_truth}
use Rattle.watch_engine.proofs.roots.is_mapped.Goals as goal

pub returns : goal.returns
returns g c = same_truth _ _ _ c.is_mapped.ensures (mapped_iff c.args.scheme (g.T.Tables.words c.args.tables.now) (record { root = c.args.root; entry = c.args.entry.now }))
