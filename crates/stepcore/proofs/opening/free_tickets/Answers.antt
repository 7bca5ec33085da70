use Rattle.std.proofs.Common.{arith}
use Rattle.std.proofs.lemmas.List.FromFn.{map-range_with_len_more}
use Rattle.shoot.specs.Tickets.{no_tickets}
use Rattle.stepcore.proofs.opening.free_tickets.Goals as goal

pub loop-hart-preserved : goal.loop-hart-preserved
loop-hart-preserved c = rw (map-range_with_len_more no_tickets 0 c.loop-hart.hart c.loop-hart.hart (omega arith), ← c.loop-hart.invariant) c.in_default.ensures
