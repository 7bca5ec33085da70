use Rattle.std.proofs.Common.{◌≡◌, map, take, drop, ◌++◌}
use Rattle.tlb.specs.Slots.{closed_up}
use Rattle.tlb.proofs.slots.close_up.Given as goal

abbrev pub invariant-loop-age : goal.invariant-loop-age
invariant-loop-age l = l.ages ≡ map (closed_up l.dropped) (take l.age-index l.fn.ages) ++ drop l.age-index l.fn.ages
