use Rattle.std.proofs.Common.{◌∙◌, ap, sym, Option}
use Rattle.watch.specs.declared.trace.Space.{Space}
use Rattle.watch.specs.ComputedTraces.{is_live_in}
use Rattle.watch_engine.specs.Held.{translation_in}
use Rattle.watch_engine.specs.Shared.{HasWordOf}
use Rattle.watch_engine.proofs.Sharing.{live-below}
use Rattle.watch_engine.specs.View.{View, view_of}
use Rattle.watch_engine.proofs.shared.has_word.Goals as goal

pub returns : goal.returns
returns g c there e s below has =
    let v : View = view_of c.args.view.now in
    let index = c.index_in_root.ensures in
    let at : HasWordOf v c.args.leaf.now.root c.index_in_root.result c.args.space = c.has_word_of.ensures there in
    ap (λ (o : Option Space). is_live_in v.scheme v.words o (translation_in s e)) at.is
    ∙ live-below v.scheme v.words c.args.leaf.now at.of (ap (v.words c.args.leaf.now.root) (sym index) ∙ at.same ∙ ap (v.words at.of.root) index) e s below has
