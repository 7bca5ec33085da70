use Rattle.std.proofs.Common.{◌≡◌, ◌≤◌}
use Rattle.board.specs.Ports.{name_of}
use Rattle.thread_tests.proofs.boards.serve_three.Given as goal

abbrev pub invariant-loop : goal.invariant-loop
invariant-loop l = (name_of l.port ≡ name_of l.initial.port) × (l.in_order ≤ 3)
