use Rattle.std.proofs.Common.{◌≡◌}
use Rattle.views.proofs.opening.sit.Given as goal

abbrev pub ghosts-load : goal.ghosts-load
ghosts-load a = record {
  after = λ _. a.seat.now.view;
  tells = λ _. a.seat.now.id ≡ a.seat.now.view.hart;
}
