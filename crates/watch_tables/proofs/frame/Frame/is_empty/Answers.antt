use Rattle.std.proofs.Common.{◌≡◌, ◌∙◌, List, length, sym, arith}
use Rattle.std.proofs.lemmas.Bool.{eq-eqb, eqb-true}
use Rattle.std.specs.Prelude.{vec_len}
use Rattle.watch_tables.specs.declared.frame.IndexedWord.{IndexedWord}
use Rattle.watch_tables.proofs.FrameWords.{empty-none, none-empty}
use Rattle.watch_tables.proofs.frame.Frame.is_empty.Goals as goal

pub returns : goal.returns
returns c =
    let words : List IndexedWord = c.args.self.now.words.items in
    let full = c.args.self.now.words.ok.0 in (
      (λ empty.
          let none : vec_len c.args.self.now.words ≡ 0 = eqb-true (vec_len c.args.self.now.words) 0 (sym c.is_empty.ensures ∙ empty) in
          none-empty words (omega arith)),
      (λ none.
          let no_word : length words ≡ 0 = empty-none words none in
          c.is_empty.ensures ∙ eq-eqb (vec_len c.args.self.now.words) 0 (omega arith)),
    )
