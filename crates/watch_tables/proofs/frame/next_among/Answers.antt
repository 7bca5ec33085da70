use Rattle.std.proofs.Common.{ℕ, ◌≡◌, true, List, Some, get_or, slice_get, refl, arith}
use Rattle.std.proofs.lemmas.Option.{slice_get-get_or}
use Rattle.watch_tables.specs.declared.frame.IndexedWord.{IndexedWord}
use Rattle.watch_tables.specs.declared.frame.StoredWord.{StoredWord}
use Rattle.watch_tables.specs.IndexedWords.{stored_at}
use Rattle.watch_tables.proofs.FrameWords.{least-passed, least-taken, none-less, none-unless}
use Rattle.watch_tables.proofs.frame.next_among.Goals.{then-word-from+then-word-least, else-word-from, else-word-from-via-then-word-from+else-word-least, else-word-from-via-else-word-from}
use Rattle.watch_tables.proofs.frame.next_among.Goals as goal

pub loop-word-preserved : goal.loop-word-preserved
loop-word-preserved c =
    let words : List IndexedWord = c.args.words.now in
    let at : ℕ = c.loop-word.word-index in
    let word : IndexedWord = get_or words at (record { index = 0; stored = record { word = 0; since = 0 } }) in
    let there : slice_get words at ≡ Some word = slice_get-get_or words at _ c.loop-word-test.true in
    elim c.if-word-from.branch [
      | then-word-from+then-word-least w ↦
          rw (w.least-is, w.stored-is) (
          least-taken words (λ (_ : StoredWord). true) c.args.from at c.loop-word.least c.loop-word.stored c.loop-word.invariant word there c.requires.indexes w.if-word-from.true w.if-word-least.true refl
          )
      | else-word-from w ↦
          rw (w.least-is, w.stored-is) (
          least-passed words (λ (_ : StoredWord). true) c.args.from at c.loop-word.least c.loop-word.stored c.loop-word.invariant word there (λ above passed. elim w.else-word-from.branch [
            | else-word-from-via-then-word-from+else-word-least v ↦ v.if-word-least.false
            | else-word-from-via-else-word-from v ↦ absurd (let below = v.if-word-from.false in omega arith)
          ])
          )
    ]

pub returns-then-least-eq-TABLE_LENGTH-clause-none : goal.returns-then-least-eq-TABLE_LENGTH-clause-none
returns-then-least-eq-TABLE_LENGTH-clause-none c = λ _ n above below.
    let end : c.loop-word.least ≡ 512 = c.if-least-eq-TABLE_LENGTH.true in
    none-unless (stored_at c.args.words.now n) (λ s is. none-less c.args.words.now (λ (_ : StoredWord). true) c.args.from c.loop-word.word-index c.loop-word.least c.loop-word.stored c.loop-word.invariant c.loop-word-test.false n above (omega arith) s is refl)

pub returns-clause-least : goal.returns-clause-least
returns-clause-least c = λ n above below.
    none-unless (stored_at c.args.words.now n) (λ s is. none-less c.args.words.now (λ (_ : StoredWord). true) c.args.from c.loop-word.word-index c.loop-word.least c.loop-word.stored c.loop-word.invariant c.loop-word-test.false n above below s is refl)
