use Rattle.std.proofs.Common.{None, drop, get_or}
use Rattle.watch_engine.specs.Left.{EachLeft}
use Rattle.watch_engine.specs.Shared.{HasWordOf}
use Rattle.watch_engine.specs.View.{view_of}
use Rattle.watch_engine.proofs.unseen.have_word_of.Given as goal

abbrev pub invariant-loop-space : goal.invariant-loop-space
invariant-loop-space g l =
    EachLeft (λ left. HasWordOf (view_of l.view) l.root l.index (get_or l.view.satps.now left.hart None)) (drop l.space-index l.left)
    → EachLeft (λ left. HasWordOf (view_of l.view) l.root l.index (get_or l.view.satps.now left.hart None)) l.left
