use Rattle.std.proofs.Common.{◌≡◌}
use Rattle.board.specs.Calls.{KeepsUnmappings}
use Rattle.board.specs.Ports.{name_of}
use Rattle.thread_tests.proofs.senders.post_until_accepted.Given as goal

abbrev pub invariant-loop : goal.invariant-loop
invariant-loop l = record {
  stays : KeepsUnmappings l.fn.port l.port;
  same : name_of l.port ≡ name_of l.fn.port;
}
