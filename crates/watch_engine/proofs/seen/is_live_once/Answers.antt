use Rattle.std.proofs.Common.{◌≡◌, subst, sym, Bool, rules}
use Rattle.watch_engine.specs.Filling.{AreAnswers}
use Rattle.watch_engine.specs.Held.{translation_in}
use Rattle.watch_engine.specs.View.{View, is_live_for, view_of}
use Rattle.watch_engine.proofs.Filling.{one_kept}
use Rattle.watch_engine.proofs.seen.is_live_once.Goals as goal

pub returns-clause-answers : goal.returns-clause-answers
returns-clause-answers g c =
    let v : View = view_of c.args.view.now in
    let live : Bool = c.is_live_in-live.result in
    let is : live ≡ is_live_for v c.args.left.now.hart (translation_in c.args.left.now.space c.args.leaf.now.entry) = search rules in
    subst (AreAnswers v c.args.leaf.now.entry) (sym c.keep_answer.ensures)
    (one_kept v c.args.leaf.now.entry _ c.args.left.now.hart c.args.left.now.space live c.requires is)
