use Rattle.std.proofs.Common.{ℕ, subst}
use Rattle.std.proofs.lemmas.List.Elements.{All-contains}
use Rattle.watch_tables.specs.Ways.{AreWays}
use Rattle.walk.specs.Maps.{page_number}
use Rattle.watch_engine.specs.KeptWays.{AreOfTable}
use Rattle.watch_engine.proofs.Keeping.{all-among}
use Rattle.watch_engine.proofs.SureWays.{sure}
use Rattle.watch_engine.proofs.kept_ways.KeptWays.take.Goals as goal

pub returns-in-Some-clause-rest : goal.returns-in-Some-clause-rest
returns-in-Some-clause-rest g c =
    let words = g.T.Tables.words c.args.tables.now in
    let since = g.T.Tables.since c.args.tables.now in
    all-among (AreOfTable c.args.scheme words since) c.args.self.now.known.items c.take_known.new.self.known.items c.take_known.ensures.rest c.requires

pub returns-in-Some-clause-ways : goal.returns-in-Some-clause-ways
returns-in-Some-clause-ways g c =
    let words = g.T.Tables.words c.args.tables.now in
    let since = g.T.Tables.since c.args.tables.now in
    let known = c.in-Some.known in
    let are = All-contains (AreOfTable c.args.scheme words since) c.args.self.now.known.items known c.requires c.in-Some.ensures.taken in
    sure c.args.scheme words since (page_number c.args.address) known.ways.items
    (subst (λ (t : ℕ). ∥ AreWays c.args.scheme words since t known.ways.items ∥₁) c.in-Some.ensures.table are)

pub returns-in-None-clause-rest : goal.returns-in-None-clause-rest
returns-in-None-clause-rest g c =
    let words = g.T.Tables.words c.args.tables.now in
    let since = g.T.Tables.since c.args.tables.now in
    all-among (AreOfTable c.args.scheme words since) c.args.self.now.known.items c.take_known.new.self.known.items c.take_known.ensures.rest c.requires
