use Rattle.std.proofs.Common.{◌≡◌, None, replicate}
use Rattle.spaces.proofs.frame_use.no_holders.Given as goal

abbrev pub invariant-loop : goal.invariant-loop
invariant-loop l = l.holders.items ≡ replicate l.counter None
