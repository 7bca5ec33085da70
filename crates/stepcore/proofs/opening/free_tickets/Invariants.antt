use Rattle.std.proofs.Common.{◌≡◌, map}
use Rattle.std.specs.List.{range_with_len}
use Rattle.shoot.specs.Tickets.{no_tickets}
use Rattle.stepcore.proofs.opening.free_tickets.Given as goal

abbrev pub invariant-loop-hart : goal.invariant-loop-hart
invariant-loop-hart l = l.tickets.items ≡ map no_tickets (range_with_len 0 l.hart)
