use Rattle.std.proofs.Common.{arith}
use Rattle.watch_tables.proofs.PointerPairs.{in-part}
use Rattle.watch_tables.proofs.pointers.Pointers.to.Goals as goal

pub returns : goal.returns
returns c = λ n small has. in-part c.args.table 18446744073709551615 n (omega arith) c.args.self.now.pairs _ _ c.range.result c.new.ensures.start c.new.ensures.end (c.range.ensures.between c.new.ensures.exhausted) has
