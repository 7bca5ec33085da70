use Rattle.std.proofs.Common.{◌≡◌, ◌<◌, sym, false, arith, rules}
use Rattle.watch.specs.Trace.{index_of}
use Rattle.watch_engine.specs.Held.{translation_of}
use Rattle.watch_engine.specs.Touched.{asks}
use Rattle.watch_engine.proofs.Asked.{untouched}
use Rattle.watch_engine.proofs.touched.is_touched.Goals as goal

pub returns-then-not-asks : goal.returns-then-not-asks
returns-then-not-asks c =
    let small : index_of c.args.address < 512 = omega arith in
    let none : asks c.args.item.now.entry.page (index_of c.args.address) ≡ false = search rules in
    sym (untouched c.args.scheme c.args.roots.now (index_of c.args.address) small c.args.ways.now (translation_of c.args.item.now) none)
