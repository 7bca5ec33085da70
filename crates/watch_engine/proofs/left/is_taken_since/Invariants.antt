use Rattle.std.proofs.Common.{length, ◌-◌, ◌≡◌, drop}
use Rattle.std.specs.List.{list_any}
use Rattle.watch_engine.specs.Left.{is_taken_since, takes}
use Rattle.watch_engine.proofs.left.is_taken_since.Given as goal

abbrev pub invariant-loop-at : goal.invariant-loop-at
invariant-loop-at l = list_any (takes l.scheme l.left l.entry) (drop l.at l.drops) ≡ is_taken_since l.scheme l.drops l.left l.entry

abbrev pub decreases-loop-at : goal.decreases-loop-at
decreases-loop-at l = length l.drops - l.at
