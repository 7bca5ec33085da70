use Rattle.std.proofs.Common.{◌≡◌, Some}
use Rattle.spaces.specs.Layout.{layout_of}
use Rattle.spaces.specs.Held.{memory_words}
use Rattle.views.specs.Rule.{memory_of}
use Rattle.views.proofs.steps.read_home.Given as goal

abbrev pub ghosts-load : goal.ghosts-load
ghosts-load a = record {
  after = λ _. a.seat.now.view;
  tells = λ n. memory_words (memory_of (layout_of a.words.now.key) a.seat.now.view) a._of.now.0 a._of.now.1 ≡ Some n;
}
