use Rattle.std.proofs.Common.{◌≡◌, ◌<◌, ◌+◌, ◌-◌, ◌∙◌, ℕ, List, Some, get_or, length, slice_get, ap, sym, set, subst, arith}
use Rattle.std.proofs.lemmas.List.{length-set}
use Rattle.std.proofs.lemmas.Option.{slice_get-get_or}
use Rattle.watch_tables.specs.declared.frame.IndexedWord.{IndexedWord}
use Rattle.watch_tables.specs.IndexedWords.{ArePlaces, index_at}
use Rattle.watch_tables.proofs.FrameWords.{index_in, most, places-left, some-kept}
use Rattle.watch_tables.proofs.frame.vacate.Goals as goal

abbrev no_word : IndexedWord
no_word = record { index = 0; stored = record { word = 0; since = 0 } }

pub overflow_cast-places : goal.overflow_cast-places
overflow_cast-places c = let le = most c.args.words.now c.requires.indexes in omega arith

pub overflow_add-places : goal.overflow_add-places
overflow_add-places c = let le = most c.args.words.now c.requires.indexes in omega arith

pub bounds-places-from : goal.bounds-places-from
bounds-places-from c =
    let words : List IndexedWord = c.args.words.now in
    let word : IndexedWord = get_or words (length words - 1) no_word in
    let there : slice_get words (length words - 1) ≡ Some word = slice_get-get_or words (length words - 1) no_word (omega arith) in
    let small : word.index < 512 = c.requires.indexes.small (length words - 1) word.index (ap index_in there) in
    let is : c.from.result ≡ word.index = c.from.ensures in
    let kept : 0 < length c.args.places.now = some-kept (length c.args.places.now) c.is_empty.result c.is_empty.ensures c.if-is_empty.false in
    let whole = (c.requires.placed kept).whole in
    omega arith

pub offset_bounds-places-from-2 : goal.offset_bounds-places-from-2
offset_bounds-places-from-2 c =
    let words : List IndexedWord = c.args.words.now in
    let word : IndexedWord = get_or words c.args.place no_word in
    let there : slice_get words c.args.place ≡ Some word = slice_get-get_or words c.args.place no_word (omega arith) in
    let small : word.index < 512 = c.requires.indexes.small c.args.place word.index (ap index_in there) in
    let is : c.from-2.result ≡ word.index = c.from-2.ensures in
    omega arith

pub bounds-places-from-2 : goal.bounds-places-from-2
bounds-places-from-2 c =
    let words : List IndexedWord = c.args.words.now in
    let word : IndexedWord = get_or words c.args.place no_word in
    let there : slice_get words c.args.place ≡ Some word = slice_get-get_or words c.args.place no_word (omega arith) in
    let small : word.index < 512 = c.requires.indexes.small c.args.place word.index (ap index_in there) in
    let is : c.from-2.result ≡ word.index = c.from-2.ensures in
    let kept : 0 < length c.args.places.now = some-kept (length c.args.places.now) c.is_empty.result c.is_empty.ensures c.if-is_empty.false in
    let whole = (c.requires.placed kept).whole in
    omega (arith, length-set c.args.places.now c.from.result (c.args.place + 1))

pub returns : goal.returns
returns c = λ left without some.
    let words : List IndexedWord = c.args.words.now in
    let places : List ℕ = c.args.places.now in
    let here : IndexedWord = get_or words c.args.place no_word in
    let there : slice_get words c.args.place ≡ Some here = slice_get-get_or words c.args.place no_word (omega arith) in
    let last : IndexedWord = get_or words (length words - 1) no_word in
    let fewer : length left + 1 ≡ length words = without.fewer in
    let end : length words - 1 ≡ length left = omega arith in
    let at_end : slice_get words (length words - 1) ≡ Some last = slice_get-get_or words (length words - 1) no_word (omega arith) in
    let kept : 0 < length places = some-kept (length places) c.is_empty.result c.is_empty.ensures c.if-is_empty.false in
    let from_is : c.from.result ≡ last.index = c.from.ensures in
    let from_2_is : c.from-2.result ≡ here.index = c.from-2.ensures in
    let are : ArePlaces (index_at left) (set (set places last.index (c.args.place + 1)) here.index 0) =
    places-left words left c.args.place here.index without (ap index_in there) c.requires.indexes last.index (ap (index_at words) (sym end) ∙ ap index_in at_end) places (c.requires.placed kept) in
    subst (λ (i : ℕ). ArePlaces (index_at left) (set (set places i (c.args.place + 1)) c.from-2.result 0)) (sym from_is) (
    subst (λ (i : ℕ). ArePlaces (index_at left) (set (set places last.index (c.args.place + 1)) i 0)) (sym from_2_is) are
    )
