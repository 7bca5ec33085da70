use Rattle.std.specs.Prelude.{if◌then◌else◌}
use Rattle.std.proofs.Common.{◌≡◌, ◌+◌, ◌<◌, ◌≤◌, ◌++◌, ◌∙◌, Bool, List, ap, append-nil, get_or, length, map, set, suc, sym, take, arith, rules}
use Rattle.std.proofs.lemmas.List.{drop_all, take_all}
use Rattle.std.proofs.lemmas.List.Edits.{map_over_more}
use Rattle.watch_engine.specs.declared.held.Held.{Held}
use Rattle.watch_engine.specs.Effects.{Does, changed}
use Rattle.watch_engine.specs.Places.{count_gone}
use Rattle.watch_engine.proofs.EmptyPlaces.{gone_front, gone_in}
use Rattle.watch_engine.proofs.places.apply_each.Goals.{then-apply_to, else-apply_to}
use Rattle.watch_engine.proofs.places.apply_each.Goals as goal

pub loop-place-preserved : goal.loop-place-preserved
loop-place-preserved g c =
    let at = c.loop-place.place in
    let within : at < length c.args.places.now = search rules in
    let f : Held → Held = changed (g.E.Effect.does c.args.effect.now).change in
    let x : Held = c.index-places-place.result in
    let item : Held = c.apply_to.new.item in
    let new : item ≡ f x = c.apply_to.ensures.item ∙ (ap (λ (e : Does). changed e.change (get_or c.loop-place.places at x)) c.loop-place.invariant.same ∙ ap f (sym c.index-places-place.is)) in
    let counted : gone_in item + c.loop-place.empty ≡ c.if-apply_to.empty = elim c.if-apply_to.branch [
      | then-apply_to w ↦ ap (λ (b : Bool). (if b then 1 else 0) + c.loop-place.empty) (sym c.apply_to.ensures.empty ∙ w.if-apply_to.true) ∙ omega (arith, w.empty-is)
      | else-apply_to w ↦ ap (λ (b : Bool). (if b then 1 else 0) + c.loop-place.empty) (sym c.apply_to.ensures.empty ∙ w.if-apply_to.false) ∙ omega (arith, w.empty-is)
    ] in
    let more = gone_front c.loop-place.places at item (search rules) in
    let next : at + 1 ≡ suc at = omega arith in
    let count : count_gone (take (at + 1) (set c.loop-place.places at item)) ≡ count_gone (take (suc at) (set c.loop-place.places at item)) = ap (λ n. count_gone (take n (set c.loop-place.places at item))) next in
    record {
      same = c.apply_to.ensures.same ∙ c.loop-place.invariant.same;
      places = rw new (map_over_more f c.args.places.now c.loop-place.places at x within c.loop-place.invariant.places c.index-places-place.is);
      gone = omega (arith, more, counted, count, c.loop-place.invariant.gone);
      few = omega (arith, counted, c.loop-place.invariant.few);
    }

pub returns-clause-places : goal.returns-clause-places
returns-clause-places g c =
    let f : Held → Held = changed (g.E.Effect.does c.args.effect.now).change in
    let long : length c.args.places.now ≤ c.loop-place.place = search rules in
    c.loop-place.invariant.places ∙ ((λ j. map f (take_all c.loop-place.place c.args.places.now long j) ++ drop_all c.loop-place.place c.args.places.now long j) ∙ append-nil (map f c.args.places.now))

pub returns-clause-gone : goal.returns-clause-gone
returns-clause-gone g c =
    let all : take c.loop-place.place c.loop-place.places ≡ c.loop-place.places = take_all c.loop-place.place c.loop-place.places (search rules) in
    let count : count_gone (take c.loop-place.place c.loop-place.places) ≡ count_gone c.loop-place.places = ap (λ (l : List Held). count_gone l) all in
    omega (arith, count, c.loop-place.invariant.gone)
