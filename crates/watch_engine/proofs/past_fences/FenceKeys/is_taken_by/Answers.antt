use Rattle.std.proofs.Common.{◌≡◌, ◌-◌, ◌∙◌, length, ap, sym, arith, rules}
use Rattle.std.proofs.lemmas.List.{length-map}
use Rattle.watch_engine.specs.PastFences.{fence_key}
use Rattle.watch_engine.proofs.ByKey.{at_first, at_next, at_none, none_more, taken}
use Rattle.watch_engine.proofs.past_fences.FenceKeys.is_taken_by.Goals as goal

pub loop-oldest-init : goal.loop-oldest-init
loop-oldest-init c =
    record {
      walk = at_first _ c.args.key c.args.scheme c.args.left.now c.args.entry.now c.args.fences.now _ c.head-at.result c.requires.keys c.head-at.ensures;
      before = c.requires.before;
    }

pub returns-then-takes-clause-taken : goal.returns-then-takes-clause-taken
returns-then-takes-clause-taken c =
    λ _. taken c.args.scheme c.args.left.now c.args.entry.now c.args.fences.now c.loop-oldest.oldest _ c.loop-oldest.invariant.before.since (omega (arith, c.loop-oldest.invariant.walk.within)) (search rules) (sym c.takes.ensures ∙ c.if-takes.true)

pub returns-then-takes-2-clause-taken : goal.returns-then-takes-2-clause-taken
returns-then-takes-2-clause-taken c =
    λ _. taken c.args.scheme c.args.left.now c.args.entry.now c.args.fences.now (c.loop-oldest.at - 1) _ (omega (arith, c.loop-oldest.invariant.before.since)) (omega (arith, c.loop-oldest.invariant.walk.within)) (search rules) (sym c.takes-in-loop-oldest.ensures ∙ c.if-takes-2.true)

pub returns-then-takes-2-clause-before : goal.returns-then-takes-2-clause-before
returns-then-takes-2-clause-before c =
    none_more c.args.scheme c.args.fences.now c.args.left.now c.args.entry.now c.loop-oldest.oldest _ c.loop-oldest.invariant.before (omega (arith, c.loop-oldest.invariant.walk.within)) (search rules) (sym c.takes.ensures ∙ c.if-takes.false)

pub older-at-requires-clause-within : goal.older-at-requires-clause-within
older-at-requires-clause-within c =
    let size : length c.args.self.now.keys.keys.items ≡ length c.args.fences.now =
    ap length c.requires.keys ∙ length-map c.args.fences.now (fence_key c.args.entry.now.page.size) in
    omega (arith, c.loop-oldest.invariant.walk.within)

pub loop-oldest-smaller : goal.loop-oldest-smaller
loop-oldest-smaller c = c.older-at.ensures.smaller

pub loop-oldest-preserved : goal.loop-oldest-preserved
loop-oldest-preserved c =
    record {
      walk =
          at_next _ c.args.key c.args.scheme c.args.left.now c.args.entry.now c.args.fences.now
          c.args.self.now.keys.keys.items c.loop-oldest.at c.older-at.result _
          c.requires.keys (omega arith) c.loop-oldest.invariant.walk (search rules) (sym c.takes-in-loop-oldest.ensures ∙ c.if-takes-2.false) c.older-at.ensures;
      before = none_more c.args.scheme c.args.fences.now c.args.left.now c.args.entry.now c.loop-oldest.oldest _ c.loop-oldest.invariant.before (omega (arith, c.loop-oldest.invariant.walk.within)) (search rules) (sym c.takes.ensures ∙ c.if-takes.false);
    }

pub returns-clause-none : goal.returns-clause-none
returns-clause-none c =
    λ _. at_none _ c.args.key c.args.scheme c.args.left.now c.args.entry.now c.args.fences.now c.loop-oldest.at c.loop-oldest.oldest (omega arith) c.loop-oldest.invariant.walk c.loop-oldest.invariant.before
