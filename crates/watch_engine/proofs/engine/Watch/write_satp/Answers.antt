use Rattle.std.proofs.Common.{◌∙◌, ap, refl, get_or, List, None, Option, ℕ}
use Rattle.watch.specs.declared.trace.Space.{Space}
use Rattle.watch_engine.specs.declared.left.Left.{Left}
use Rattle.watch_engine.specs.Left.{with_left}
use Rattle.watch_engine.proofs.SpaceChanges.{leaving_all, left_pushed, other_satps, satp_stands}
use Rattle.watch_engine.proofs.engine.Watch.write_satp.Goals as goal

pub returns-clause-ok : goal.returns-clause-ok
returns-clause-ok g c = λ trace at.
    let watch = c.args.self.now in
    let these : List ℕ = c.add.new.roots in
    let grown = other_satps at _ c.add_hart.new.self.limit c.add_hart.ensures.same in
    let old : Option Space = get_or c.add_hart.new.self.spaces.items c.args.hart None in
    let now = c.in_ok-new.ensures.left ∙ ap (λ (o : Option Left). with_left o watch.left) c.left_of-left.ensures in
    let pushed = left_pushed grown c.args.hart old refl _ now in
    let leaves = leaving_all grown c.args.hart old refl _ now in
    satp_stands pushed c.args.hart c.args.space leaves these c.in_ok-new.ensures.roots c.in_ok-add_hart.ensures.ok c.in_ok-new.new c.in_ok-new.ensures.same c.in_ok-new.ensures.more _
    c.find_again.ensures _ c.drop_back.ensures _ c.write.ensures
