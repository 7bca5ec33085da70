use Rattle.std.proofs.Common.{ℕ, ◌≡◌, ◌<◌, Some}
use Rattle.watch_tables.specs.FrameRow.{ppn_at}
use Rattle.watch_tables.specs.Hints.{IsHinted}
use Rattle.watch_tables.proofs.hints.Hints.make.Given as goal

-- the frames before this place have their hints
abbrev pub invariant-loop-place-2 : goal.invariant-loop-place-2
invariant-loop-place-2 l = (p ppn : ℕ) → p < l.place → ppn_at l.row p ≡ Some ppn → IsHinted l.self ppn
