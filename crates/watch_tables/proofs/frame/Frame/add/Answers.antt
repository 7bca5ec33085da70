use Rattle.std.proofs.Common.{◌≡◌, ◌∙◌, ◌<◌, ◌+◌, ℕ, List, length, set, arith}
use Rattle.std.proofs.lemmas.List.{length-set}
use Rattle.watch_tables.specs.declared.frame.IndexedWord.{IndexedWord}
use Rattle.watch_tables.proofs.FrameWords.{indexes-push, most, places-push, stored-push}
use Rattle.watch_tables.proofs.frame.Frame.add.Goals as goal

pub returns-then-is_empty-clause-ok : goal.returns-then-is_empty-clause-ok
returns-then-is_empty-clause-ok c =
    stored-push c.args.self.now.words.items c.push.new.self.items (record { index = c.args.index; stored = c.args.stored }) c.in_ok-push.ensures.items c.requires.none c.args.self.now.indexed c.requires.index

pub overflow_cast-place : goal.overflow_cast-place
overflow_cast-place c =
    let full = c.args.self.now.words.ok.0 in
    let le = most c.args.self.now.words.items c.args.self.now.indexed in
    omega arith

pub overflow_add-place : goal.overflow_add-place
overflow_add-place c =
    let full = c.args.self.now.words.ok.0 in
    let le = most c.args.self.now.words.items c.args.self.now.indexed in
    omega arith

pub invariant_of-self-2 : goal.invariant_of-self-2
invariant_of-self-2 c =
    let words : List IndexedWord = c.args.self.now.words.items in
    let places : List ℕ = c.args.self.now.places.items in
    let word : IndexedWord = record { index = c.args.index; stored = c.args.stored } in record {
      indexed = indexes-push words c.push.new.self.items word c.in_ok-push.ensures.items c.requires.none c.args.self.now.indexed c.requires.index;
      placed = λ some.
          let long : length (set places c.from.result (c.len-place.result + 1)) ≡ length places = length-set places c.from.result (c.len-place.result + 1) in
          let kept : 0 < length places = omega arith in
          places-push words c.push.new.self.items word c.in_ok-push.ensures.items c.requires.none places c.from.result c.len-place.result c.from.ensures (c.len-place.ensures ∙ c.args.self.now.words.ok.0) (c.args.self.now.placed kept) c.requires.index;
    }

pub returns-clause-ok : goal.returns-clause-ok
returns-clause-ok c =
    stored-push c.args.self.now.words.items c.push.new.self.items (record { index = c.args.index; stored = c.args.stored }) c.in_ok-push.ensures.items c.requires.none c.args.self.now.indexed c.requires.index
