use Rattle.std.proofs.Common.{◌≡◌}
use Rattle.board.specs.Calls.{KeepsUnmappings}
use Rattle.board.specs.Ports.{name_of}
use Rattle.harts.specs.Asks.{AsksBelow}
use Rattle.harts.proofs.shooting.ask_each.Given as goal

abbrev pub invariant-loop-to : goal.invariant-loop-to
invariant-loop-to l = record {
  same : name_of l.port ≡ name_of l.fn.port;
  asked : AsksBelow l.to l.named l.ticket l.fn.port l.port;
  keeps : KeepsUnmappings l.fn.port l.port;
}
