use Rattle.std.proofs.Common.{◌≡◌, ◌∙◌, ℕ, List, ap, length, sym, take, arith, rules}
use Rattle.std.proofs.lemmas.List.{length-take-le}
use Rattle.watch_engine.specs.declared.held.Held.{Held}
use Rattle.watch_engine.specs.Places.{count_gone, items_of}
use Rattle.watch_engine.proofs.EmptyPlaces.{gone_and_there}
use Rattle.watch_engine.specs.Keys.{key_of}
use Rattle.watch_engine.proofs.Emptying.{front_keys}
use Rattle.watch_engine.proofs.held_list.HeldList.cut_end.Goals as goal

pub relink-requires-clause-same : goal.relink-requires-clause-same
relink-requires-clause-same c = λ by. front_keys (key_of by) c.end_of-end.result _ c.args.self.now.places.items _ (c.args.self.now.indexed by) (c.as_slice-2.ensures.value ∙ (c.truncate.ensures.items))

pub invariant_of-self-2-clause-counted : goal.invariant_of-self-2-clause-counted
invariant_of-self-2-clause-counted c =
    let places : List Held = c.args.self.now.places.items in
    let end : ℕ = c.end_of-end.result in
    let value = c.as_slice.ensures.value in
    let size : length places ≡ c.len-count.result = search rules in
    let long : length c.as_slice.result.now ≡ length places = ap (λ (l : List Held). length l) value in
    let front : length (take end places) ≡ end = length-take-le end places (omega (arith, c.end_of-end.ensures.within)) in
    let cut : count_gone c.truncate.new.self.items ≡ count_gone (take end places) = ap (λ (l : List Held). count_gone l) c.truncate.ensures.items in
    let same : length (items_of (take end places)) ≡ length (items_of places) =
    ap (λ (l : List Held). length (items_of (take end l))) (sym value) ∙ (ap length c.end_of-end.ensures.items ∙ ap (λ (l : List Held). length (items_of l)) value) in
    omega (arith, cut, same, gone_and_there places, gone_and_there (take end places), c.args.self.now.counted, c.saturating_sub-self.ensures)
