use Rattle.watch_engine.proofs.LeftOrder.{ends_late, run_of_root}
use Rattle.watch_engine.proofs.left_spaces.of_root.Goals as goal

pub slice_bounds-result-count : goal.slice_bounds-result-count
slice_bounds-result-count c = ends_late c.args.left.now _ _ c.args.root c.count_below-start.ensures.within c.count_below-start.ensures.place c.count_up_to-end.ensures.place

pub slice_bounds-result-start : goal.slice_bounds-result-start
slice_bounds-result-start c = ends_late c.args.left.now _ _ c.args.root c.count_below-start.ensures.within c.count_below-start.ensures.place c.count_up_to-end.ensures.place

pub returns : goal.returns
returns c =
    run_of_root c.args.left.now _ _ c.args.root
    (ends_late c.args.left.now _ _ c.args.root c.count_below-start.ensures.within c.count_below-start.ensures.place c.count_up_to-end.ensures.place) c.count_below-start.ensures.place c.count_up_to-end.ensures.place
