use Rattle.std.proofs.Common.{sym, refl, arith}
use Rattle.watch_tables.proofs.FrameWords.{in-words-at, none-beyond, read-at, stored-none}
use Rattle.watch_tables.proofs.frame.Frame.word.Goals as goal

pub returns-then-index-ge-TABLE_LENGTH : goal.returns-then-index-ge-TABLE_LENGTH
returns-then-index-ge-TABLE_LENGTH c =
    sym (none-beyond c.args.self.now.words.items c.args.self.now.indexed c.args.index c.if-index-ge-TABLE_LENGTH.true)

pub index-requires : goal.index-requires
index-requires c =
    let full = c.args.self.now.words.ok.0 in
    let low = in-words-at c.args.self.now.words.items c.in-Some.place c.args.index c.in-Some.ensures.some in
    omega arith

pub returns-in-Some : goal.returns-in-Some
returns-in-Some c =
    sym (read-at c.args.self.now.words.items c.args.self.now.indexed c.in-Some.place c.args.index c.index.result.now c.in-Some.ensures.some c.index.ensures)

pub returns-in-None : goal.returns-in-None
returns-in-None c = sym (stored-none c.args.self.now.words.items c.args.index (c.in-None.ensures.none refl))
