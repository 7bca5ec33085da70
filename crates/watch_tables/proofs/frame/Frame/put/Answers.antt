use Rattle.std.proofs.Common.{◌∙◌, Option, ap, cond, refl, sym, arith}
use Rattle.std.specs.Prelude.{◌==◌}
use Rattle.watch_tables.specs.declared.frame.StoredWord.{StoredWord}
use Rattle.watch_tables.specs.IndexedWords.{index_at, stored_at}
use Rattle.watch_tables.proofs.FrameWords.{in-words-at, indexes-set, not-to-store, on-err, same-indexes, same-places, still-none, stored-none, stored-set, to-store}
use Rattle.watch_tables.proofs.frame.Frame.put.Goals as goal

pub returns-then-word-eq0-clause-ok : goal.returns-then-word-eq0-clause-ok
returns-then-word-eq0-clause-ok c =
    still-none c.args.self.now.words.items c.args.index _ (stored-none c.args.self.now.words.items c.args.index (c.in_default.ensures.none refl)) (not-to-store c.args.word c.args.count c.if-word-eq0.true)

pub returns-in_default-clause-more : goal.returns-in_default-clause-more
returns-in_default-clause-more c = on-err c.add.result (stored-none c.args.self.now.words.items c.args.index (c.in_default.ensures.none refl))

pub index_mut-requires : goal.index_mut-requires
index_mut-requires c =
    let full = c.args.self.now.words.ok.0 in
    let low = in-words-at c.args.self.now.words.items c.in-Some.place c.args.index c.in-Some.ensures.some in
    omega arith

pub invariant_of-self : goal.invariant_of-self
invariant_of-self c =
    let words = c.args.self.now.words.items in
    let same = indexes-set words c.in-Some.place c.args.index (record { index = c.args.index; stored = record { word = c.args.word; since = c.args.count } }) c.in-Some.ensures.some refl in record {
      indexed = same-indexes (index_at words) _ same c.args.self.now.indexed;
      placed = λ some. same-places (index_at words) _ c.args.self.now.places.items same (c.args.self.now.placed some);
    }

pub returns-clause-ok : goal.returns-clause-ok
returns-clause-ok c = λ i.
    let words = c.args.self.now.words.items in
    stored-set words c.in-Some.place c.args.index (record { index = c.args.index; stored = record { word = c.args.word; since = c.args.count } }) c.in-Some.ensures.some refl c.args.self.now.indexed i
    ∙ ap (λ (o : Option StoredWord). cond (i == c.args.index) o (stored_at words i)) (sym (to-store c.args.word c.args.count c.if-word-eq0-2.false))
