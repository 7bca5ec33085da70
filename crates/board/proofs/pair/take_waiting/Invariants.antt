use Rattle.std.proofs.Common.{◌≡◌, ◌+◌, ◌≤◌, ◌++◌, List, length, vec_len, vec_capacity}
use mathlib.Core.List.{IsPrefix}
use Rattle.shoot.specs.Request.{Request}
use Rattle.board.proofs.pair.take_waiting.Given as goal

abbrev pub invariant-loop : goal.invariant-loop
invariant-loop l = (rest : List Request) × (l.inbox.taken ++ rest ≡ l.outbox.accepted) × IsPrefix rest l.inbox.known × (length rest + l.counter ≡ l.count)
    × (l.inbox ≡ record l.initial.inbox { taken = l.initial.inbox.taken ++ l.list.items; known = l.inbox.known })
    × (vec_len l.list ≡ l.counter) × (l.count ≤ vec_capacity l.list)
