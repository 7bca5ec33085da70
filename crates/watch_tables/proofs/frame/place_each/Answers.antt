use Rattle.std.proofs.Common.{◌≡◌, ◌<◌, ◌+◌, ℕ, List, Some, get_or, slice_get, ap, sym, set, subst, arith}
use Rattle.std.proofs.lemmas.Option.{slice_get-get_or}
use Rattle.watch_tables.specs.declared.frame.IndexedWord.{IndexedWord}
use Rattle.watch_tables.specs.IndexedWords.{ArePlaces}
use Rattle.watch_tables.proofs.FrameWords.{index_below, index_in, most, places-all, places-next, places-none}
use Rattle.watch_tables.proofs.frame.place_each.Goals as goal

pub loop-place-init : goal.loop-place-init
loop-place-init c = places-none c.args.words.now c.args.places.now c.requires.none

pub overflow_cast-places : goal.overflow_cast-places
overflow_cast-places c = let le = most c.args.words.now c.requires.indexes in omega arith

pub overflow_add-places : goal.overflow_add-places
overflow_add-places c = let le = most c.args.words.now c.requires.indexes in omega arith

pub bounds-places-from : goal.bounds-places-from
bounds-places-from c =
    let words : List IndexedWord = c.args.words.now in
    let word : IndexedWord = get_or words c.loop-place.place (record { index = 0; stored = record { word = 0; since = 0 } }) in
    let there : slice_get words c.loop-place.place ≡ Some word = slice_get-get_or words c.loop-place.place _ (omega arith) in
    let small : word.index < 512 = c.requires.indexes.small c.loop-place.place word.index (ap index_in there) in
    let is : c.from.result ≡ word.index = c.from.ensures in
    let whole = c.loop-place.invariant.whole in
    omega arith

pub loop-place-preserved : goal.loop-place-preserved
loop-place-preserved c =
    let words : List IndexedWord = c.args.words.now in
    let word : IndexedWord = get_or words c.loop-place.place (record { index = 0; stored = record { word = 0; since = 0 } }) in
    let there : slice_get words c.loop-place.place ≡ Some word = slice_get-get_or words c.loop-place.place _ (omega arith) in
    let is : c.from.result ≡ word.index = c.from.ensures in
    subst (λ (i : ℕ). ArePlaces (index_below words (c.loop-place.place + 1)) (set c.loop-place.places i (c.loop-place.place + 1))) (sym is) (places-next words c.loop-place.place word c.loop-place.places c.requires.indexes there c.loop-place.invariant)

pub returns : goal.returns
returns c = places-all c.args.words.now c.loop-place.place c.loop-place.places (omega arith) c.loop-place.invariant
