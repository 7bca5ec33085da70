use Rattle.watch_engine.proofs.PageHarts.{Gathers}
use Rattle.watch_engine.proofs.held_list.HeldList.harts_of.Given as goal

abbrev pub invariant-loop-at : goal.invariant-loop-at
invariant-loop-at l = Gathers l.page l.self.places.items l.at l.harts

abbrev pub decreases-loop-at : goal.decreases-loop-at
decreases-loop-at l = l.at
