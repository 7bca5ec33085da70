use Rattle.std.proofs.Common.{◌≡◌, ◌≤◌, ◌<◌, ◌-◌, get_or, length}
use Rattle.watch_engine.specs.declared.held.LastLive.{LastLive}
use Rattle.watch_engine.specs.PageRuns.{AreHartsOf, AreRememberedUpTo}
use Rattle.watch_engine.proofs.page_runs.remember_run.Given as goal

abbrev pub invariant-loop-at : goal.invariant-loop-at
invariant-loop-at l =
    (l.start ≤ l.at) × (l.at < length l.live)
    × ((d : LastLive) → (get_or l.live l.at d).entry.page ≡ l.page)
    × AreHartsOf l.page l.held l.harts
    × AreRememberedUpTo l.live l.start l.at l.fn.held l.held

abbrev pub decreases-loop-at : goal.decreases-loop-at
decreases-loop-at l = length l.live - l.at
