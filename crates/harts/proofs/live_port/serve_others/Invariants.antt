use Rattle.std.proofs.Common.{◌≡◌}
use Rattle.board.specs.Ports.{name_of}
use Rattle.harts.specs.Performs.{ServesBelow}
use Rattle.harts.proofs.live_port.serve_others.Given as goal

abbrev pub invariant-loop-from : goal.invariant-loop-from
invariant-loop-from l = record {
  same : name_of l.port ≡ name_of l.fn.port;
  serves : ServesBelow l.from l.fn.port l.port;
}
