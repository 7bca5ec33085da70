use Rattle.views.specs.OrderTurns.{with_armed}
use Rattle.views.proofs.cells.arm.Given as goal

abbrev pub ghosts-store : goal.ghosts-store
ghosts-store a = record {
  after = λ _. with_armed a._of.now.0 a._of.now.1 a.seat.now.view;
  tells = λ _. Unit {0};
}
