use Rattle.views.specs.OrderTurns.{ordered}
use Rattle.views.proofs.cells.open_order.Given as goal

abbrev pub ghosts-load : goal.ghosts-load
ghosts-load a = record {
  after = λ _. ordered a._of.now.0 a._of.now.1 a.seat.now.view;
  tells = λ _. Unit {0};
}
