use Rattle.watch_engine.proofs.NothingAdded.{fill_below}
use Rattle.watch_engine.specs.View.{view_of}
use Rattle.watch_engine.proofs.unseen.fill_below.Goals as goal

pub returns : goal.returns
returns g c global =
    fill_below (view_of c.args.view.now) c.args.root c.args.index (c.are_leaves_global.ensures global) c.args.left.now (c.have_word_of.ensures c.if-not-have_word_of.false)
