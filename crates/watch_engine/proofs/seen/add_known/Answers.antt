use Rattle.std.proofs.Common.{◌≡◌, List, OnOk, subst, sym}
use Rattle.watch_engine.specs.declared.held.LastLive.{LastLive}
use Rattle.watch_engine.specs.Seen.{with_live}
use Rattle.watch_engine.specs.View.{View, view_of}
use Rattle.watch_engine.proofs.Sharing.{none-kept}
use Rattle.watch_engine.proofs.seen.add_known.Goals as goal

pub returns-then-all : goal.returns-then-all
returns-then-all g c =
    let v : View = view_of c.args.view.now in
    let live : List LastLive = with_live v.count c.args.leaf.now 0 v.satps c.args.seen.now.items in
    let none = none-kept v c.args.leaf.now c.args.known.now c.requires.answers c.args.left.now live (c.requires.all c.if-all.true) in
    subst (λ (items : List LastLive). OnOk c.add_live_for_each.result (c.add_live_for_each.new.seen.items ≡ items)) (sym none) c.add_live_for_each.ensures
