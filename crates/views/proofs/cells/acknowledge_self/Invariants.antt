use Rattle.views.specs.OrderTurns.{self_acked}
use Rattle.views.proofs.cells.acknowledge_self.Given as goal

abbrev pub ghosts-store : goal.ghosts-store
ghosts-store a = record {
  after = λ _. self_acked a._of.now.0 a._of.now.1 a.seat.now.view;
  tells = λ _. Unit {0};
}
