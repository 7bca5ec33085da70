use Rattle.watch_engine.proofs.LeftOrder.{run_of_root}
use Rattle.watch_engine.proofs.left_spaces.of_root_near.Goals as goal

pub returns : goal.returns
returns c =
    run_of_root c.args.left.now _ _ c.args.root c.end_of_run-end.ensures.from c.count_below_near-start.ensures.place c.end_of_run-end.ensures.place
