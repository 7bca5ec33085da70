use Rattle.watch_causes.proofs.Returning.{one-more}
use Rattle.watch_causes.proofs.returns.last_returns.Goals as goal

pub loop-at-preserved : goal.loop-at-preserved
loop-at-preserved c = λ w. one-more w c.args.moves.now c.loop-at.at _ _ _ c.loop-at-test.true (c.in_ok-add.ensures w) (c.loop-at.invariant w)
