use Rattle.std.proofs.Common.{ℕ, ◌≡◌, ◌<◌, ◌≤◌, ◌+◌, ◌∙◌, List, ap, false, length, refl, subst, sym, take, arith}
use Rattle.std.specs.Prelude.{◌&&◌, Option, get_or}
use Rattle.std.specs.List.{list_any}
use Rattle.std.proofs.lemmas.Bool.{and_from, and_parts}
use Rattle.std.proofs.lemmas.List.{take_all}
use Rattle.std.proofs.lemmas.List.Folds.{list_any_more}
use Rattle.watch_engine.specs.declared.concern.Concern.{Concern}
use Rattle.watch_engine.specs.declared.held.Held.{Held}
use Rattle.watch_engine.specs.declared.keys.Keys.{Keys}
use Rattle.watch_engine.specs.declared.state.State.{State}
use Rattle.watch_engine.specs.Concerns.{concerns}
use Rattle.watch_engine.specs.Effects.{Does, IsPartly, is_due}
use Rattle.watch_engine.specs.Places.{count_gone}
use Rattle.watch_engine.proofs.Changing.{none_either, none_narrower, none_of_none, partly_both, partly_none}
use Rattle.watch_engine.proofs.held_list.apply_by_keys.Goals as goal

pub returns-then-count-min-clause-partly : goal.returns-then-count-min-clause-partly
returns-then-count-min-clause-partly g c = partly_none (g.E.Effect.does c.args.effect.now).change c.args.places.now

pub loop-number-init : goal.loop-number-init
loop-number-init g c =
    let does : Does = g.E.Effect.does c.args.effect.now in
    record {
      same = refl;
      gone = omega arith;
      partly = partly_none does.change c.args.places.now;
      none = none_of_none c.args.places.now (is_due does.change);
    }

pub apply_with_keys-requires-clause-keys : goal.apply_with_keys-requires-clause-keys
apply_with_keys-requires-clause-keys g c =
    let was = c.loop-number.invariant.partly in
    c.by-chains.ensures ∙ (c.requires c.in-Some.keys.by ∙ sym (was.keys c.in-Some.keys.by))

pub returns-in_default-apply_with_keys-clause-partly : goal.returns-in_default-apply_with_keys-clause-partly
returns-in_default-apply_with_keys-clause-partly g c =
    let was = c.loop-number.invariant in
    let change : Held → Option State = (g.E.Effect.does c.args.effect.now).change in
    let now : List Held = c.apply_with_keys.new.places in
    partly_both change c.args.places.now c.loop-number.places now was.partly (subst (λ (e : Does). IsPartly e.change c.loop-number.places now) was.same c.apply_with_keys.ensures.partly)

pub loop-number-preserved : goal.loop-number-preserved
loop-number-preserved g c =
    let was = c.loop-number.invariant in
    let n : ℕ = c.loop-number.number in
    let does : Does = g.E.Effect.does c.args.effect.now in
    let old : List Held = c.loop-number.places in
    let now : List Held = c.apply_with_keys.new.places in
    let one = c.apply_with_keys.ensures in
    let keys : Keys = c.in-Some.keys in
    let this : Concern = c.concern.result in
    let partly : IsPartly does.change old now = subst (λ (e : Does). IsPartly e.change old now) was.same one.partly in
    let more : count_gone now ≤ count_gone old + c.in-Some-apply_with_keys.more = one.gone c.in-Some-apply_with_keys.more c.in-Some-apply_with_keys.is in
    let within : n < length does.concerns = omega (arith, c.count-count.ensures.count) in
    let is : this ≡ get_or does.concerns n this = c.concern.ensures this ∙ ap (λ (e : Does). get_or e.concerns n this) was.same in
    let here : list_any (λ i. concerns this i && is_due does.change i) now ≡ false =
    subst (λ (e : Does). list_any (λ i. concerns this i && is_due e.change i) now ≡ false) was.same
    (one.none c.in-Some-apply_with_keys.more c.in-Some-apply_with_keys.is (concerns this) (c.keys.ensures.all keys c.in-Some.is)) in
    record {
      same = one.same ∙ was.same;
      gone = c.add_empty-empty.ensures (count_gone c.args.places.now) (omega (arith, was.gone, more));
      partly = partly_both does.change c.args.places.now old now was.partly partly;
      none =
          (λ j. list_any (λ i. list_any_more (λ c. concerns c i) does.concerns n this within j && is_due does.change i) now)
          ∙ none_either (λ i. list_any (λ c. concerns c i) (take n does.concerns)) (λ i. concerns (get_or does.concerns n this) i) (is_due does.change) now
          (partly.none (λ i. list_any (λ c. concerns c i) (take n does.concerns)) was.none)
          (subst (λ (d : Concern). list_any (λ i. concerns d i && is_due does.change i) now ≡ false) is here);
    }

pub returns-clause-none : goal.returns-clause-none
returns-clause-none g c = λ count is_count.
    let was = c.loop-number.invariant in
    let does : Does = g.E.Effect.does c.args.effect.now in
    let all : take c.loop-number.number does.concerns ≡ does.concerns = take_all c.loop-number.number does.concerns (omega (arith, c.count-count.ensures.count)) in
    none_narrower (λ i. list_any (λ c. concerns c i) does.concerns && is_due does.change i) (is_due does.change)
    (λ i is. and_from _ _ (c.count-count.ensures.told i (and_parts _ _ is).1) is) c.loop-number.places
    ((λ j. list_any (λ i. list_any (λ c. concerns c i) (sym all j) && is_due does.change i) c.loop-number.places) ∙ was.none)

pub returns-clause-gone : goal.returns-clause-gone
returns-clause-gone g c = λ count is_count.
    let same : c.loop-number.empty ≡ count = cc in
    omega (arith, same, c.loop-number.invariant.gone)
