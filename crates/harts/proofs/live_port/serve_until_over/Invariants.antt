use Rattle.std.proofs.Common.{◌≡◌}
use Rattle.board.specs.Ports.{name_of}
use Rattle.harts.proofs.live_port.serve_until_over.Given as goal

abbrev pub invariant-loop : goal.invariant-loop
invariant-loop l = record {
  same : name_of l.port ≡ name_of l.fn.port;
}
