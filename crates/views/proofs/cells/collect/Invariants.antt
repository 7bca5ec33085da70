use Rattle.std.proofs.Common.{◌==◌}
use Rattle.shoot.specs.Acknowledgement.{acknowledgement}
use Rattle.views.specs.OrderTurns.{looked}
use Rattle.views.proofs.cells.collect.Given as goal

abbrev pub ghosts-load : goal.ghosts-load
ghosts-load a = record {
  after = λ n. looked a._of.now.1 a._of.now.0 (n == acknowledgement a._of.now.2) n a.seat.now.view;
  tells = λ _. Unit {0};
}
