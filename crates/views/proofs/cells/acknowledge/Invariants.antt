use Rattle.views.specs.OrderTurns.{acknowledged}
use Rattle.views.proofs.cells.acknowledge.Given as goal

abbrev pub ghosts-store : goal.ghosts-store
ghosts-store a = record {
  after = λ _. acknowledged a._of.now.0 a._of.now.1 a._of.now.2 a.seat.now.view;
  tells = λ _. Unit {0};
}
