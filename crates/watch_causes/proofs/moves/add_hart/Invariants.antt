use Rattle.std.proofs.Common.{ℕ, ◌≡◌, get_or, length, None, ◌+◌}
use Rattle.watch_causes.proofs.moves.add_hart.Given as goal

abbrev pub invariant-loop-place : goal.invariant-loop-place
invariant-loop-place l =
    (length l.asids.items ≡ l._place)
    × (l._place-end ≡ l.hart + 1)
    × ((h : ℕ) → get_or l.asids.items h None ≡ get_or l.fn.asids.items h None)
