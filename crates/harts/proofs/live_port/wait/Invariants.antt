use Rattle.std.proofs.Common.{◌≡◌}
use Rattle.board.specs.Ports.{name_of}
use Rattle.harts.specs.Performs.{TakesTurns}
use Rattle.harts.proofs.live_port.wait.Given as goal

abbrev pub invariant-loop-taken : goal.invariant-loop-taken
invariant-loop-taken l = record {
  same : name_of l.port ≡ name_of l.fn.port;
  turns : TakesTurns l.latch.harts l.ticket l._taken l.fn.port l.port;
}
