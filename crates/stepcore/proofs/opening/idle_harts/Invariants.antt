use Rattle.std.proofs.Common.{◌≡◌, replicate}
use Rattle.stepcore.specs.State.{new_hart}
use Rattle.stepcore.proofs.opening.idle_harts.Given as goal

abbrev pub invariant-loop : goal.invariant-loop
invariant-loop l = l.harts.items ≡ replicate l.counter (new_hart l.fn.scheme)
