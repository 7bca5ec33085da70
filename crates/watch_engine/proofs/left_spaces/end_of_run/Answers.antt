use Rattle.watch_engine.proofs.LeftOrder.{ends_there}
use Rattle.watch_engine.proofs.left_spaces.end_of_run.Goals as goal

pub returns-else-left-end-clause-place : goal.returns-else-left-end-clause-place
returns-else-left-end-clause-place c =
    ends_there c.args.left.now c.args.start c.loop-end.end c.args.root _ c.requires.order c.requires.place c.loop-end.invariant.0 c.loop-end.invariant.2
    (λ among. c.if-left-end.false)
    c.loop-end.invariant.1
