use Rattle.watch_engine.proofs.Untouched.{told}
use Rattle.watch_engine.specs.View.{view_of}
use Rattle.watch_engine.proofs.touched.SettleTouchedEffect.count.Goals as goal

pub returns-clause-told : goal.returns-clause-told
returns-clause-told g c = λ i is.
    told (view_of c.args.self.now.view.now) c.args.self.now.address c.args.self.now.ways.now i is
