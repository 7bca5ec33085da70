use Rattle.std.proofs.Common.{◌≡◌, ◌≤◌, ◌+◌, ◌++◌, ◌∙◌, List, arith, drop, take, vec_len, ap, length, map, [], ◌∷◌, refl, subst, sym, inl, rules}
use Rattle.std.specs.Prelude.{Option}
use Rattle.std.proofs.lemmas.Bool.{eqb-true}
use Rattle.watch_engine.specs.declared.held.Held.{Held}
use Rattle.watch_engine.specs.declared.state.State.{State}
use Rattle.watch_engine.specs.Effects.{all_changed, changed}
use Rattle.watch_engine.specs.Places.{count_gone, items_of}
use Rattle.watch_engine.proofs.Changing.{items_after}
use Rattle.watch_engine.proofs.Emptying.{all_stay}
use Rattle.watch_engine.proofs.Placed.{mapped_whole}
use Rattle.watch_engine.proofs.held_list.HeldList.apply.Goals as goal

none : (places : List Held) → length places ≡ 0 → places ≡ []
none [] is = refl
none (i ∷ places) is = absurd (omega arith)

pub returns-then-is_empty-clause-left : goal.returns-then-is_empty-clause-left
returns-then-is_empty-clause-left g c =
    let change : Held → Option State = (g.E.Effect.does c.args.effect.now).change in
    let places : List Held = c.args.self.now.places.items in
    let long : length places ≡ vec_len c.args.self.now.places = search rules in
    let zero : vec_len c.args.self.now.places ≡ 0 = eqb-true _ _ (sym c.is_empty.ensures ∙ c.if-is_empty.true) in
    subst (λ (l : List Held). items_of l ≡ all_changed change (items_of l)) (sym (none places (long ∙ zero))) refl

pub returns-then-is_empty-clause-few : goal.returns-then-is_empty-clause-few
returns-then-is_empty-clause-few g c =
    let places : List Held = c.args.self.now.places.items in
    let long : length places ≡ vec_len c.args.self.now.places = search rules in
    let zero : vec_len c.args.self.now.places ≡ 0 = eqb-true _ _ (sym c.is_empty.ensures ∙ c.if-is_empty.true) in
    let count : count_gone places ≡ 0 = ap (λ (l : List Held). count_gone l) (none places (long ∙ zero)) in
    inl (omega (arith, count))

pub returns-clause-left : goal.returns-clause-left
returns-clause-left g c =
    let change : Held → Option State = (g.E.Effect.does c.args.effect.now).change in
    let places : List Held = c.args.self.now.places.items in
    let all = mapped_whole (changed change) _ c.apply_to_all-empty.new.places c.as_mut_slice.result.now places c.apply_to_all-empty.ensures.places c.as_mut_slice.ensures.value c.as_mut_slice.ensures.len in
    c.tidy.ensures.same ∙ (ap items_of all ∙ items_after change places)

pub invariant_of-self-2 : goal.invariant_of-self-2
invariant_of-self-2 g c =
    let change : Held → Option State = (g.E.Effect.does c.args.effect.now).change in
    let places : List Held = c.args.self.now.places.items in
    let new : List Held = c.apply_to_all-empty.new.places in
    let all = mapped_whole (changed change) _ new c.as_mut_slice.result.now places c.apply_to_all-empty.ensures.places c.as_mut_slice.ensures.value c.as_mut_slice.ensures.len in
    let now : count_gone (take (vec_len c.args.self.now.places) (new ++ drop (length new) places)) ≡ count_gone (map (changed change) places) = ap (λ (l : List Held). count_gone l) all in
    let seen : count_gone c.as_slice.result.now ≡ count_gone (map (changed change) places) = ap (λ (l : List Held). count_gone l) (c.as_slice.ensures.value ∙ all) in
    let is : count_gone new ≡ count_gone (map (changed change) places) = ap (λ (l : List Held). count_gone l) (c.apply_to_all-empty.ensures.places ∙ ap (map (changed change)) c.as_mut_slice.ensures.value) in
    let old : count_gone c.as_mut_slice.result.now ≡ count_gone places = ap (λ (l : List Held). count_gone l) c.as_mut_slice.ensures.value in
    let more : count_gone new ≤ count_gone places + c.apply_to_all-empty.result = omega (arith, old, c.apply_to_all-empty.ensures.gone) in
    let sum = c.add_empty-self.ensures 0 (omega (arith, more, seen, is, c.args.self.now.counted)) in
    record {
      indexed = λ by. all_stay (λ i. (changed change i).state) by _ places _ (c.args.self.now.indexed by) all;
      counted = omega (arith, now, seen, sum);
    }
