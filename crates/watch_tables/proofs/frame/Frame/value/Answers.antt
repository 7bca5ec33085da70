use Rattle.std.proofs.Common.{Option, ap, sym, refl}
use Rattle.std.specs.Option.{unwrap_or}
use Rattle.watch_tables.specs.declared.frame.StoredWord.{StoredWord}
use Rattle.watch_tables.specs.Stored.{value_of}
use Rattle.watch_tables.proofs.FrameWords.{read-at, stored-none}
use Rattle.watch_tables.proofs.frame.Frame.value.Goals as goal

pub returns-in-Some : goal.returns-in-Some
returns-in-Some c =
    ap (λ (o : Option StoredWord). unwrap_or (value_of o) 0) (
    sym (read-at c.args.self.now.words.items c.args.self.now.indexed c.in-Some.place c.args.index c.index.result.now c.in-Some.ensures.some c.index.ensures)
    )

pub returns-in-None : goal.returns-in-None
returns-in-None c = ap (λ (o : Option StoredWord). unwrap_or (value_of o) 0) (sym (stored-none c.args.self.now.words.items c.args.index (c.in-None.ensures.none refl)))
