use Rattle.std.proofs.Common.{◌≡◌, ◌-◌, length, take}
use Rattle.watch_engine.specs.Held.{remembered_all}
use Rattle.watch_engine.proofs.page_runs.remember_all.Given as goal

abbrev pub invariant-loop-at : goal.invariant-loop-at
invariant-loop-at l = l.held ≡ remembered_all (take l.at l.live) l.fn.held

abbrev pub decreases-loop-at : goal.decreases-loop-at
decreases-loop-at l = length l.live - l.at
