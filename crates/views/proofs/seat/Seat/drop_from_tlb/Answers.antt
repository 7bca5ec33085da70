use Rattle.views.proofs.Within.{within_served}
use Rattle.views.proofs.seat.Seat.drop_from_tlb.Goals as goal

pub invariant_of-self : goal.invariant_of-self
invariant_of-self c =
    let i = c.self.invariant in
    (i.0, rw c.serve.ensures.list (within_served c.self.inside.tlb.entries c.self.inside.right.me.0.view.entries c.args.what.now i.1))
