use Rattle.std.proofs.Common.{◌≡◌, ◌∙◌, ◌+◌, ◌++◌, ℕ, List, ap, drop, length, subst, sym, take, arith}
use Rattle.std.specs.Prelude.{vec_len}
use Rattle.watch_tables.specs.declared.frame.IndexedWord.{IndexedWord}
use Rattle.watch_tables.specs.IndexedWords.{AreIndexes, ArePlacesIfKept, IsWithout, index_at, stored_at}
use Rattle.watch_tables.proofs.FrameWords.{indexes-left, is-without, stored-left, written-back}
use Rattle.watch_tables.proofs.frame.Frame.take_out.Goals as goal

pub invariant_of-self : goal.invariant_of-self
invariant_of-self c =
    let words : List IndexedWord = c.args.self.now.words.items in
    let left : List IndexedWord = c.swap_remove.new.self.items in
    let full = c.args.self.now.words.ok.0 in
    let left_full = c.swap_remove.new.self.ok.0 in
    let fewer : length left + 1 ≡ length words = (let len = c.swap_remove.ensures.len in omega arith) in
    let without : IsWithout words c.args.place left = is-without words left c.args.place (vec_len c.args.self.now.words) full fewer c.swap_remove.ensures.by_index.0 c.swap_remove.ensures.by_index.1 c.swap_remove.result in
    let seen : IsWithout c.as_slice.result.now c.args.place left = subst (λ (ws : List IndexedWord). IsWithout ws c.args.place left) (sym c.as_slice.ensures.value) without in
    let places : List ℕ = c.args.self.now.places.items in
    let whole : vec_len c.args.self.now.places ≡ length c.vacate.new.places = (let places_full = c.args.self.now.places.ok.0 in let as_long = c.vacate.auto.places in let lent = c.as_mut_slice.ensures.value in let long = ap (λ (ps : List ℕ). length ps) lent in omega arith) in
    let vacated : ArePlacesIfKept (index_at left) (take (vec_len c.args.self.now.places) (c.vacate.new.places ++ drop (length c.vacate.new.places) places)) =
    subst (λ (ps : List ℕ). ArePlacesIfKept (index_at left) ps) (sym (written-back (vec_len c.args.self.now.places) c.vacate.new.places (drop (length c.vacate.new.places) places) whole)) (c.vacate.ensures left seen) in
    record {
      indexed = subst (λ (ws : List IndexedWord). AreIndexes (index_at ws)) (sym c.shrink.ensures) (indexes-left words left c.args.place c.args.index without c.requires c.args.self.now.indexed);
      placed = subst (λ (ws : List IndexedWord). ArePlacesIfKept (index_at ws) c.forget_places.new.places.items) (sym c.shrink.ensures) (c.forget_places.ensures (index_at left) vacated);
    }

pub returns : goal.returns
returns c = λ i.
    let words : List IndexedWord = c.args.self.now.words.items in
    let left : List IndexedWord = c.swap_remove.new.self.items in
    let full = c.args.self.now.words.ok.0 in
    let left_full = c.swap_remove.new.self.ok.0 in
    let fewer : length left + 1 ≡ length words = (let len = c.swap_remove.ensures.len in omega arith) in
    let without : IsWithout words c.args.place left = is-without words left c.args.place (vec_len c.args.self.now.words) full fewer c.swap_remove.ensures.by_index.0 c.swap_remove.ensures.by_index.1 c.swap_remove.result in
    ap (λ (ws : List IndexedWord). stored_at ws i) c.shrink.ensures ∙ stored-left words left c.args.place c.args.index without c.requires c.args.self.now.indexed i
