use Rattle.views.specs.OrderTurns.{noted}
use Rattle.views.proofs.steps.store_edit.Given as goal

abbrev pub ghosts-store : goal.ghosts-store
ghosts-store a = record {
  after = λ _. noted a.words.now.key a._of.now.1 a._of.now.2 a.seat.now.view a._of.now.0;
  tells = λ _. Unit {0};
}
