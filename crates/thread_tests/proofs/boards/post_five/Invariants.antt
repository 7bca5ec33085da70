use Rattle.std.proofs.Common.{◌≡◌}
use Rattle.board.specs.Ports.{name_of}
use Rattle.thread_tests.proofs.boards.post_five.Given as goal

abbrev pub invariant-loop-ticket : goal.invariant-loop-ticket
invariant-loop-ticket l = name_of l.port ≡ name_of l.initial.port
