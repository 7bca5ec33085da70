use Rattle.std.proofs.Common.{refl}
use Rattle.watch_engine.proofs.Standings.{new_stands}
use Rattle.watch_engine.specs.View.{View}
use Rattle.watch_engine.proofs.engine.Watch.new.Goals as goal

pub returns-clause-follows : goal.returns-clause-follows
returns-clause-follows g c =
    let v : View =
    record {
      scheme = c.args.scheme;
      words = g.T.Tables.words c.args.tables;
      since = g.T.Tables.since c.args.tables;
      satps = c.new.result.spaces.items;
      roots = c.new-2.result;
      left = c.new-4.result;
      drops = c.new-5.result.fences.items;
      count = 0;
    } in
    new_stands v c.new-3.result c.new-6.result.items c.new-7.result.items
    c.requires c.new.ensures c.new-2.ensures c.new-3.ensures c.new-4.ensures c.new-6.ensures.items c.new-7.ensures.items refl
