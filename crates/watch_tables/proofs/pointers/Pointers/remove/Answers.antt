use Rattle.watch_tables.proofs.PointerPairs.{without-pair}
use Rattle.watch_tables.proofs.pointers.Pointers.remove.Goals as goal

pub returns-in-Some : goal.returns-in-Some
returns-in-Some c = rw c.in-Some.is (without-pair c.args.self.now.pairs c.remove.new.self c.in-Some.table c.args.number ((c.remove.ensures.updates).0))
