use Rattle.spaces.specs.Layout.{layout_of}
use Rattle.views.specs.Turns.{TellsLoad, walked}
use Rattle.views.proofs.steps.load_next.Given as goal

abbrev pub ghosts-load : goal.ghosts-load
ghosts-load a = record {
  after = walked a.seat.now.view a._of.now.0 a._of.now.1 a.seat.now.view.reads;
  tells = TellsLoad (layout_of a.words.now.key) a.seat.now.view a._of.now.0 a._of.now.1 a.seat.now.view.reads;
}
