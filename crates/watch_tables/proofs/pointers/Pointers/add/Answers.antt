use Rattle.watch_tables.proofs.PointerPairs.{with-pair}
use Rattle.watch_tables.proofs.pointers.Pointers.add.Goals as goal

pub returns-in_ok-insert-clause-ok : goal.returns-in_ok-insert-clause-ok
returns-in_ok-insert-clause-ok c = rw c.in-Some.is (with-pair c.args.self.now.pairs c.insert.new.self c.in-Some.table c.args.number ((c.in_ok-insert.ensures.updates).0))
