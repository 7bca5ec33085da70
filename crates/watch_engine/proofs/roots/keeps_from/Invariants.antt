use Rattle.std.proofs.Common.{◌≡◌, ◌≤◌, ◌<◌, ◌-◌, ℕ, drop, get_or, length}
use Rattle.std.specs.List.{list_all}
use Rattle.watch_engine.specs.Held.{stays}
use Rattle.watch_engine.proofs.roots.keeps_from.Given as goal

abbrev pub invariant-loop-place : goal.invariant-loop-place
invariant-loop-place l =
    (list_all (stays l.frames l.satps) (drop l.place l.ppns) ≡ list_all (stays l.frames l.satps) l.ppns)
    × ((k d : ℕ) → l.place ≤ k → k < length l.ppns → l.frames.first ≤ get_or l.ppns k d)

abbrev pub decreases-loop-place : goal.decreases-loop-place
decreases-loop-place l = length l.ppns - l.place
