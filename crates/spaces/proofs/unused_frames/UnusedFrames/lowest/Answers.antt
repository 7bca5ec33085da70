use Rattle.std.proofs.Common.{ℕ, List, ap, sym, ◌∙◌, arith, rules}
use Rattle.spaces.specs.UnusedFrames.{marked_in}
use Rattle.spaces.proofs.Marks.{passed, found, past, same_words}
use Rattle.spaces.proofs.unused_frames.UnusedFrames.lowest.Goals as goal

pub loop-next-init : goal.loop-next-init
loop-next-init c = record { low = omega arith; none = λ m up down. absurd (omega (arith, up, down)) }

pub returns-then-frame-to : goal.returns-then-frame-to
returns-then-frame-to c =
    same_words c.self.inside.words c.args.self.now c.args.from c.args.to _ c.self.view_is
    (found c.self.inside.words c.loop-next.next c.args.from (search rules) c.loop-next.invariant.low c.loop-next.invariant.none c.if-ahead-ne0.true c.args.to c.if-frame-to.true)

pub returns-else-frame-to : goal.returns-else-frame-to
returns-else-frame-to c m up down =
    ap (λ (w : List ℕ). marked_in w m) (sym c.self.view_is)
    ∙ past c.self.inside.words c.loop-next.next c.args.from (search rules) c.loop-next.invariant.low c.loop-next.invariant.none c.if-ahead-ne0.true c.args.to c.if-frame-to.false m up down

pub loop-next-preserved : goal.loop-next-preserved
loop-next-preserved c = record {
  low = (let l = c.loop-next.invariant.low in omega arith);
  none = λ m up down. passed c.self.inside.words c.loop-next.next c.args.from (search rules) c.loop-next.invariant.low c.loop-next.invariant.none c.if-ahead-ne0.false m up down;
}

pub returns : goal.returns
returns c m up down =
    ap (λ (w : List ℕ). marked_in w m) (sym c.self.view_is) ∙ c.loop-next.invariant.none m up (let past = c.loop-next-test.false in omega (arith, down))
