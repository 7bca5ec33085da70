use Rattle.spaces.specs.Layout.{layout_of}
use Rattle.spaces.proofs.OpeningTree.{word-is}
use Rattle.views.proofs.Pairs.{home-reads}
use Rattle.views.proofs.steps.read_home.Goals as goal

pub load-requires-clause-steps : goal.load-requires-clause-steps
load-requires-clause-steps c =
    rw (c.requires.fit.key_is, c.word_index-at.ensures.value) (home-reads c.args.config.now c.args.seat.now.id c.args.seat.now.view c.args.table c.args.index c.requires.home c.requires.index)

pub word_index-at-requires-clause-word : goal.word_index-at-requires-clause-word
word_index-at-requires-clause-word c = word-is (layout_of c.args.config.now) c.args.seat.now.view.hart c.args.table c.args.index c.requires.home c.requires.index
