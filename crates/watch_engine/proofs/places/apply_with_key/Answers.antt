use Rattle.std.specs.Prelude.{Option, if◌then◌else◌}
use Rattle.std.proofs.Common.{◌≡◌, ◌+◌, ◌-◌, ◌<◌, ◌∙◌, ℕ, Bool, List, ap, false, get_or, length, map, refl, set, sym, take, arith}
use Rattle.watch_engine.specs.declared.held.Held.{Held}
use Rattle.watch_engine.specs.declared.state.State.{State}
use Rattle.watch_engine.specs.Chains.{last_place}
use Rattle.watch_engine.specs.Effects.{Does, changed, is_due}
use Rattle.watch_engine.specs.Keys.{key_of}
use Rattle.watch_engine.proofs.Changing.{partly_at, partly_both, partly_none}
use Rattle.watch_engine.proofs.Emptying.{on_without}
use Rattle.watch_engine.proofs.Walks.{smaller, start}
use Rattle.watch_engine.proofs.EmptyPlaces.{gone_in, gone_set}
use Rattle.watch_engine.proofs.places.apply_with_key.Goals.{then-apply_to, else-apply_to}
use Rattle.watch_engine.proofs.places.apply_with_key.Goals as goal

pub loop-at-init : goal.loop-at-init
loop-at-init g c =
    let places : List Held = c.args.places.now in
    let change : Held → Option State = (g.E.Effect.does c.args.effect.now).change in
    record {
      same = refl;
      partly = partly_none change places;
      gone = omega arith;
      few = omega arith;
      walk = start (key_of c.args.by) c.args.key (is_due change) places c.in-Some.newest (c.newest.ensures.found c.in-Some.newest c.in-Some.is ∙ ap (last_place c.args.key) c.requires.keys);
    }

pub loop-at-smaller : goal.loop-at-smaller
loop-at-smaller g c =
    let at : ℕ = c.loop-at.at in
    let keys : c.args.chains.now.keys.items ≡ map (key_of c.args.by) c.loop-at.places = c.requires.keys ∙ sym (c.loop-at.invariant.partly.keys c.args.by) in
    smaller c.loop-at.places (key_of c.args.by) at c.in-Some-before.older c.loop-at-test.true c.loop-at.invariant.walk.within
    (c.before-in-loop-at.ensures.found c.in-Some-before.older c.in-Some-before.is ∙ ap (λ (ks : List ℕ). last_place (get_or ks (at - 1) 0) (take (at - 1) ks)) keys)

pub returns-in_default-before-clause-partly : goal.returns-in_default-before-clause-partly
returns-in_default-before-clause-partly g c =
    let at : ℕ = c.loop-at.at in
    let places : List Held = c.loop-at.places in
    let change : Held → Option State = (g.E.Effect.does c.args.effect.now).change in
    let same : g.E.Effect.does c.loop-at.effect ≡ g.E.Effect.does c.args.effect.now = c.loop-at.invariant.same in
    let new : Held = c.apply_to.new.item in
    let low : at - 1 < length places = omega (arith, c.loop-at.invariant.walk.within, c.loop-at-test.true) in
    let d : Held = c.index-places-at.result in
    let is : new ≡ changed change (get_or places (at - 1) d) = c.apply_to.ensures.item ∙ ap (λ (e : Does). changed e.change (get_or places (at - 1) d)) same in
    let once : is_due change new ≡ false = ap (λ (e : Does). is_due e.change new) (sym same) ∙ c.apply_to.ensures.once in
    partly_both change c.args.places.now places (set places (at - 1) new) c.loop-at.invariant.partly (partly_at change places (at - 1) d new is once)

pub loop-at-preserved : goal.loop-at-preserved
loop-at-preserved g c =
    let at : ℕ = c.loop-at.at in
    let places : List Held = c.loop-at.places in
    let change : Held → Option State = (g.E.Effect.does c.args.effect.now).change in
    let same : g.E.Effect.does c.loop-at.effect ≡ g.E.Effect.does c.args.effect.now = c.loop-at.invariant.same in
    let new : Held = c.apply_to.new.item in
    let counted : gone_in new + c.loop-at.empty ≡ c.if-apply_to.empty = elim c.if-apply_to.branch [
      | then-apply_to w ↦ ap (λ (b : Bool). (if b then 1 else 0) + c.loop-at.empty) (sym c.apply_to.ensures.empty ∙ w.if-apply_to.true) ∙ omega (arith, w.empty-is)
      | else-apply_to w ↦ ap (λ (b : Bool). (if b then 1 else 0) + c.loop-at.empty) (sym c.apply_to.ensures.empty ∙ w.if-apply_to.false) ∙ omega (arith, w.empty-is)
    ] in
    let more = gone_set places (at - 1) new in
    let older : c.in-Some-before.older < at = loop-at-smaller g c in
    let keys : c.args.chains.now.keys.items ≡ map (key_of c.args.by) places = c.requires.keys ∙ sym (c.loop-at.invariant.partly.keys c.args.by) in
    let low : at - 1 < length places = omega (arith, c.loop-at.invariant.walk.within, c.loop-at-test.true) in
    let d : Held = c.index-places-at.result in
    let is : new ≡ changed change (get_or places (at - 1) d) = c.apply_to.ensures.item ∙ ap (λ (e : Does). changed e.change (get_or places (at - 1) d)) same in
    let once : is_due change new ≡ false = ap (λ (e : Does). is_due e.change new) (sym same) ∙ c.apply_to.ensures.once in
    let one = partly_at change places (at - 1) d new is once in
    record {
      same = c.apply_to.ensures.same ∙ same;
      gone = omega (arith, more, counted, c.loop-at.invariant.gone);
      few = omega (arith, counted, older, c.loop-at.invariant.few);
      partly = partly_both change c.args.places.now places (set places (at - 1) new) c.loop-at.invariant.partly one;
      walk = on_without (key_of c.args.by) c.args.key (is_due change) places at new c.loop-at.invariant.walk c.loop-at-test.true once (one.keys c.args.by) c.in-Some-before.older
          (c.before-in-loop-at.ensures.found c.in-Some-before.older c.in-Some-before.is ∙ ap (λ (ks : List ℕ). last_place (get_or ks (at - 1) 0) (take (at - 1) ks)) keys);
    }
