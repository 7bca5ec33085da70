use Rattle.std.proofs.Common.{◌∙◌, Bool, List, ap, subst, if◌then◌else◌}
use Rattle.std.specs.List.{insert}
use Rattle.watch_engine.specs.declared.left.Left.{Left}
use Rattle.watch_engine.specs.LeftOrder.{Ends}
use Rattle.watch_engine.proofs.LeftOrder.{insert_is_added}
use Rattle.watch_engine.proofs.left_spaces.add_reserved.Goals as goal

pub returns-clause-added : goal.returns-clause-added
returns-clause-added c =
    let one : Left = c.args.one in
    let old : List Left = c.args.spaces.now.items in
    let ends : Ends old c.count_up_to-place.result one.space.root =
    subst (λ (ls : List Left). Ends ls c.count_up_to-place.result one.space.root) c.as_slice.ensures.value c.count_up_to-place.ensures.place in
    c.insert.ensures.items
    ∙ (ap (λ (b : Bool). if b then insert old c.count_up_to-place.result one else old) (c.insert.ensures.succeeds c.requires.room)
    ∙ insert_is_added one old c.count_up_to-place.result ends)
