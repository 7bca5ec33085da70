use Rattle.watch_engine.specs.Causes.{applies}
use Rattle.watch_engine.specs.Keys.{key_of}
use Rattle.watch_engine.proofs.Walks.{IsAt}
use Rattle.watch_engine.proofs.held_list.HeldList.may_concern_with.Given as goal

abbrev pub invariant-loop-at : goal.invariant-loop-at
invariant-loop-at l = IsAt (key_of l.fn.by) l.key (applies l.cause) l.self.places.items l.at

abbrev pub decreases-loop-at : goal.decreases-loop-at
decreases-loop-at l = l.at
