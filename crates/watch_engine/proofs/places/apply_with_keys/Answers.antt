use Rattle.std.proofs.Common.{ℕ, ◌≡◌, ◌≤◌, ◌+◌, ◌∙◌, Bool, List, false, inl, inr, subst, sym, arith}
use Rattle.std.specs.Prelude.{◌==◌, ◌&&◌, Option}
use Rattle.std.specs.List.{list_any}
use Rattle.std.proofs.lemmas.Bool.{and_from, and_parts}
use Rattle.watch_engine.specs.declared.held.Held.{Held}
use Rattle.watch_engine.specs.declared.keys.Keys.{Keys}
use Rattle.watch_engine.specs.declared.state.State.{State}
use Rattle.watch_engine.specs.Effects.{Does, IsPartly, is_due}
use Rattle.watch_engine.specs.Keys.{key_at, key_of}
use Rattle.watch_engine.specs.Places.{count_gone}
use Rattle.watch_engine.proofs.Changing.{none_narrower, partly_both}
use Rattle.watch_engine.proofs.Walks.{below_or_is, keyed, none_among}
use Rattle.watch_engine.proofs.places.apply_with_keys.Goals as goal

pub loop-offset-preserved : goal.loop-offset-preserved
loop-offset-preserved g c =
    let keys : Keys = c.args.keys.now in
    let was = c.loop-offset.invariant in
    let change : Held → Option State = (g.E.Effect.does c.args.effect.now).change in
    let same : g.E.Effect.does c.loop-offset.effect ≡ g.E.Effect.does c.args.effect.now = was.same in
    let one = c.apply_with_key-in-loop-offset.ensures in
    let now : List Held = c.apply_with_key-in-loop-offset.new.places in
    let key : ℕ → ℕ = key_at keys in
    let partly : IsPartly change c.loop-offset.places now = subst (λ (e : Does). IsPartly e.change c.loop-offset.places now) same one.partly in
    let more : count_gone now ≤ count_gone c.loop-offset.places + c.in-Some-apply_with_key.more = one.gone c.in-Some-apply_with_key.more c.in-Some-apply_with_key.is in
    let here : list_any (keyed (key_of keys.by) (key c.loop-offset.offset) (is_due change)) now ≡ false =
    subst (λ (e : Does). list_any (keyed (key_of keys.by) (key c.loop-offset.offset) (is_due e.change)) now ≡ false) same
    (subst (λ (k : ℕ). list_any (keyed (key_of keys.by) k (is_due (g.E.Effect.does c.loop-offset.effect).change)) now ≡ false) c.key-key.ensures (one.none c.in-Some-apply_with_key.more c.in-Some-apply_with_key.is)) in
    record {
      same = one.same ∙ same;
      gone = c.add_empty-empty.ensures (count_gone c.args.places.now) (omega (arith, was.gone, more));
      partly = partly_both change c.args.places.now c.loop-offset.places now was.partly partly;
      large = partly.none (λ i. key_of keys.by i == keys.limit) was.large;
      each = λ n h. elim (below_or_is n c.loop-offset.offset (omega arith)) [
        | inl low ↦ partly.none (λ i. key_of keys.by i == key n) (was.each n low)
        | inr is ↦ subst (λ (m : ℕ). list_any (keyed (key_of keys.by) (key m) (is_due change)) now ≡ false) (sym is) here
      ];
    }

pub returns-clause-none : goal.returns-clause-none
returns-clause-none g c = λ count is_count test are.
    let keys : Keys = c.args.keys.now in
    let change : Held → Option State = (g.E.Effect.does c.args.effect.now).change in
    let wanted : Held → Bool = λ i. test i && is_due change i in
    let was = c.loop-offset.invariant in
    let narrower : (k : ℕ) → list_any (keyed (key_of keys.by) k (is_due change)) c.loop-offset.places ≡ false → list_any (keyed (key_of keys.by) k wanted) c.loop-offset.places ≡ false = λ k.
    none_narrower (keyed (key_of keys.by) k (is_due change)) (keyed (key_of keys.by) k wanted)
    (λ i is. let p = and_parts (key_of keys.by i == k) (wanted i) is in and_from _ _ p.0 (and_parts (test i) (is_due change i) p.1).1) c.loop-offset.places in
    none_among (key_of keys.by) wanted (keys.count + keys.megapages) (key_at keys) keys.limit c.loop-offset.places
    (λ n h. narrower (key_at keys n) (was.each n (omega arith))) (narrower keys.limit was.large) (λ i is. are i (and_parts (test i) (is_due change i) is).0)

pub returns-clause-gone : goal.returns-clause-gone
returns-clause-gone g c = λ count is_count.
    let same : c.loop-offset.empty ≡ count = cc in
    omega (arith, same, c.loop-offset.invariant.gone)
