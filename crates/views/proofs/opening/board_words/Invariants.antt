use Rattle.std.proofs.Common.{◌≡◌, ◌++◌, replicate}
use Rattle.spaces.specs.Layout.{layout_of}
use Rattle.spaces.specs.Opening.{first_words}
use Rattle.views.specs.Rule.{size}
use Rattle.views.proofs.opening.board_words.Given as goal

abbrev pub invariant-loop-at : goal.invariant-loop-at
invariant-loop-at l = l.words.items ≡ first_words (layout_of l.config) (size (layout_of l.config)) ++ replicate l._at 0
