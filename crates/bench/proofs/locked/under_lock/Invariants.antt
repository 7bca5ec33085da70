use Rattle.std.proofs.Common.{◌≤◌, ◌-◌}
use Rattle.bench.proofs.locked.under_lock.Given as goal

abbrev pub ghosts-round : goal.ghosts-round
ghosts-round g a = record { config = a.config.now; lists = a.blank }

abbrev pub invariant-loop-made : goal.invariant-loop-made
invariant-loop-made g l = l.made ≤ l.count

abbrev pub decreases-loop-made : goal.decreases-loop-made
decreases-loop-made g l = l.count - l.made
