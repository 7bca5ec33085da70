use Rattle.watch_engine.proofs.PageHarts.{one_more}
use Rattle.watch_engine.proofs.page_runs.remember_all.Goals as goal

pub loop-at-preserved : goal.loop-at-preserved
loop-at-preserved c =
    one_more c.args.live.now c.loop-at.at c.loop-at.at c.index-live-at.result c.loop-at.held c.loop-at.held _
    c.loop-at-test.true c.index-live-at.is (λ held is. is) c.in_ok-remember.ensures.ok c.args.held.now c.loop-at.invariant
