use Rattle.std.proofs.Common.{length}
use Rattle.watch_engine.specs.PastFences.{NoneBefore}
use Rattle.watch_engine.proofs.ByKey.{IsAt}
use Rattle.watch_engine.proofs.past_fences.FenceKeys.is_taken_by.Given as goal

abbrev pub invariant-loop-oldest : goal.invariant-loop-oldest
invariant-loop-oldest l = record {
  walk : IsAt (length l.self.keys.heads.items) l.key l.scheme l.left l.entry l.fences l.at;
  before : NoneBefore l.scheme l.fences l.left l.entry l.oldest;
}

abbrev pub decreases-loop-oldest : goal.decreases-loop-oldest
decreases-loop-oldest l = l.at
