use Rattle.std.proofs.Common.{◌≡◌, ◌∙◌, List, Option, ap, false, refl, sym}
use Rattle.std.specs.Option.{unwrap_or}
use Rattle.watch_tables.specs.declared.frame.IndexedWord.{IndexedWord}
use Rattle.watch_tables.specs.declared.frame.StoredWord.{StoredWord}
use Rattle.watch_tables.specs.IndexedWords.{stored_at}
use Rattle.watch_tables.specs.Paths.{lacks_g}
use Rattle.watch_tables.specs.Stored.{value_of}
use Rattle.watch_tables.proofs.FrameWords.{g-next, read-at, stored-none}
use Rattle.watch_tables.proofs.frame.Frame.next_lacking_g.Goals.{in-Some+else-lacks_g, in_default}
use Rattle.watch_tables.proofs.frame.Frame.next_lacking_g.Goals as goal

pub returns-then-lacks_g-clause-present : goal.returns-then-lacks_g-clause-present
returns-then-lacks_g-clause-present c =
    read-at c.args.self.now.words.items c.args.self.now.indexed c.in-Some.place c.loop-index.index c.index.result.now c.in-Some.ensures.some c.index.ensures

pub loop-index-preserved : goal.loop-index-preserved
loop-index-preserved c =
    let words : List IndexedWord = c.args.self.now.words.items in
    let here : lacks_g (unwrap_or (value_of (stored_at words c.loop-index.index)) 0) ≡ false = elim c.match-kept_place.branch [
      | in-Some+else-lacks_g w ↦
          ap (λ (o : Option StoredWord). lacks_g (unwrap_or (value_of o) 0)) (read-at words c.args.self.now.indexed w.in-Some.place c.loop-index.index w.index.result.now w.in-Some.ensures.some w.index.ensures)
          ∙ sym w.lacks_g.ensures ∙ w.if-lacks_g.false
      | in_default w ↦ ap (λ (o : Option StoredWord). lacks_g (unwrap_or (value_of o) 0)) (stored-none words c.loop-index.index (w.in_default.ensures.none refl))
    ] in
    g-next words c.args.from c.loop-index.index c.loop-index.invariant here
