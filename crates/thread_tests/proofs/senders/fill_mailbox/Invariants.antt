use Rattle.std.proofs.Common.{◌≡◌}
use Rattle.board.specs.Ports.{name_of}
use Rattle.thread_tests.proofs.senders.fill_mailbox.Given as goal

abbrev pub invariant-loop-ticket : goal.invariant-loop-ticket
invariant-loop-ticket l = record {
  same : name_of l.port ≡ name_of l.fn.port;
}
