use Rattle.std.proofs.Common.{◌≡◌, ◌∙◌, List, ap, map, arith, rules}
use Rattle.std.proofs.lemmas.Fn.{filter_same}
use Rattle.watch_engine.specs.declared.held.Held.{Held}
use Rattle.watch_engine.specs.Keys.{key_of}
use Rattle.watch_engine.specs.Places.{count_gone, items_of}
use Rattle.watch_engine.proofs.EmptyPlaces.{all_closed}
use Rattle.watch_engine.proofs.held_list.HeldList.close_up.Goals as goal

pub returns-clause-same : goal.returns-clause-same
returns-clause-same c =
    let left : c.retain.new.self.items ≡ items_of c.args.self.now.places.items = filter_same _ _ _ (λ x b g called. search rules) _ _ c.retain.ensures.filtered in
    ap items_of left ∙ (all_closed c.args.self.now.places.items).same

pub returns-clause-none : goal.returns-clause-none
returns-clause-none c =
    let left : c.retain.new.self.items ≡ items_of c.args.self.now.places.items = filter_same _ _ _ (λ x b g called. search rules) _ _ c.retain.ensures.filtered in
    ap (λ (l : List Held). count_gone l) left ∙ (all_closed c.args.self.now.places.items).none

pub invariant_of-self-clause-counted : goal.invariant_of-self-clause-counted
invariant_of-self-clause-counted c =
    let left : c.retain.new.self.items ≡ items_of c.args.self.now.places.items = filter_same _ _ _ (λ x b g called. search rules) _ _ c.retain.ensures.filtered in
    let none : count_gone c.retain.new.self.items ≡ 0 = ap (λ (l : List Held). count_gone l) left ∙ (all_closed c.args.self.now.places.items).none in
    omega arith

pub invariant_of-self-clause-indexed : goal.invariant_of-self-clause-indexed
invariant_of-self-clause-indexed c = λ by. c.relink.ensures by ∙ ap (map (key_of by)) c.as_slice.ensures.value
