use Rattle.std.proofs.Common.{◌≡◌, ◌≤◌}
use Rattle.board.specs.Ports.{name_of}
use Rattle.thread_tests.proofs.senders.serve_all.Given as goal

abbrev pub invariant-loop : goal.invariant-loop
invariant-loop l = record {
  same : name_of l.port ≡ name_of l.fn.port;
  few : l.served ≤ l.fn.count;
}
