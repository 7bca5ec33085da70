use Rattle.std.proofs.Common.{refl}
use Rattle.watch_tables.proofs.FrameWords.{none-next, read-at, stored-none}
use Rattle.watch_tables.proofs.frame.Frame.next_word.Goals as goal

pub returns-in-Some-clause-present : goal.returns-in-Some-clause-present
returns-in-Some-clause-present c =
    read-at c.args.self.now.words.items c.args.self.now.indexed c.in-Some.place c.loop-index.index c.index.result.now c.in-Some.ensures.some c.index.ensures

pub loop-index-preserved : goal.loop-index-preserved
loop-index-preserved c =
    none-next c.args.self.now.words.items c.args.from c.loop-index.index c.loop-index.invariant (stored-none c.args.self.now.words.items c.loop-index.index (c.in_default.ensures.none refl))
