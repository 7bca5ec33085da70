use Rattle.std.proofs.Common.{◌∙◌, ap, List}
use Rattle.watch_engine.specs.declared.left.Left.{Left}
use Rattle.watch_engine.specs.declared.held.LastLive.{LastLive}
use Rattle.watch_engine.specs.Seen.{with_leaf, with_live}
use Rattle.watch_engine.specs.View.{View, view_of}
use Rattle.watch_engine.proofs.LeftOrder.{kept_of_root}
use Rattle.watch_engine.proofs.seen.add_one.Goals as goal

pub returns-clause-seen : goal.returns-clause-seen
returns-clause-seen g c =
    let v : View = view_of c.args.view.now in
    let seen : List LastLive = c.args.seen.now.items in
    c.in_ok-add_leaf.ensures.seen
    ∙ (ap (λ (ls : List Left). with_leaf v c.args.leaf.now ls seen) c.of_root_near-behind.ensures
    ∙ kept_of_root v c.args.leaf.now v.left (with_live v.count c.args.leaf.now 0 v.satps seen))
