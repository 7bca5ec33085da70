use Rattle.std.proofs.Common.{ℕ, ◌≡◌, ◌≤◌, get_or, length, None, ◌+◌}
use Rattle.watch_engine.proofs.satps.Satps.add_hart.Given as goal

abbrev pub invariant-loop-place : goal.invariant-loop-place
invariant-loop-place l =
    (length l.self.spaces.items ≡ l._place)
    × (l._place-end ≡ l.hart + 1)
    × (length l.self.spaces.items ≤ 256)
    × ((h : ℕ) → get_or l.self.spaces.items h None ≡ get_or l.fn.self.spaces.items h None)
