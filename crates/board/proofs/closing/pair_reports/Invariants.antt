use Rattle.std.proofs.Common.{◌*◌, ◌≤◌}
use Rattle.std.specs.Prelude.{vec_capacity}
use Rattle.board.proofs.PairsClosed.{IsClosedTo}
use Rattle.board.proofs.closing.pair_reports.Given as goal

abbrev pub invariant-loop-sender : goal.invariant-loop-sender
invariant-loop-sender l = record {
  closed : IsClosedTo l.fn.harts l.fn.outboxes.items l.fn.inboxes.items l.outboxes.items l.inboxes.items l.pairs.items l.sender 0;
  room : l.fn.harts * l.fn.harts ≤ vec_capacity l.pairs;
}

abbrev pub invariant-loop-receiver : goal.invariant-loop-receiver
invariant-loop-receiver l = record {
  closed : IsClosedTo l.fn.harts l.fn.outboxes.items l.fn.inboxes.items l.outboxes.items l.inboxes.items l.pairs.items l.sender l.receiver;
  room : l.fn.harts * l.fn.harts ≤ vec_capacity l.pairs;
}
