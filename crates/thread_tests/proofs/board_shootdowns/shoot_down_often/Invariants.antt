use Rattle.std.proofs.Common.{◌≡◌}
use Rattle.board.specs.Ports.{name_of}
use Rattle.thread_tests.proofs.board_shootdowns.shoot_down_often.Given as goal

abbrev pub invariant-loop-round : goal.invariant-loop-round
invariant-loop-round l = record {
  same : name_of l.port ≡ name_of l.fn.port;
}
