use Rattle.views.proofs.Within.{within_fenced}
use Rattle.views.proofs.seat.Seat.fence.Goals as goal

pub invariant_of-self : goal.invariant_of-self
invariant_of-self c =
    let i = c.self.invariant in
    (i.0, rw c.fence.ensures (within_fenced c.self.inside.tlb.scheme c.self.inside.tlb.entries c.self.inside.right.me.0.view.entries c.args.rs1 c.args.rs2 i.1))
