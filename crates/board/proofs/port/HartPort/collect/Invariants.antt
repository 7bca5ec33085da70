use Rattle.std.proofs.Common.{◌≡◌}
use Rattle.std.specs.Prelude.{IsTrue}
use Rattle.shoot.specs.Tickets.{is_open}
use Rattle.board.specs.Ports.{name_of}
use Rattle.board.specs.Collects.{IsCollected}
use Rattle.board.proofs.port.HartPort.collect.Given as goal

abbrev pub invariant-loop-from : goal.invariant-loop-from
invariant-loop-from l = record {
  collected : IsCollected l.fn.self l.fn.ticket l.from l.self;
  still_open : IsTrue (is_open l.self.tickets l.fn.ticket);
  same : name_of l.self ≡ name_of l.fn.self;
}
