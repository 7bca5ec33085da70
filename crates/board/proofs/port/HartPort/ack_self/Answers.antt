use Rattle.std.proofs.Common.{rules}
use Rattle.std.specs.Arc.{arc_value}
use Rattle.board.proofs.Ties.{counted_ack, tied_ack}
use Rattle.board.proofs.port.HartPort.ack_self.Goals as goal

pub invariant_of-self : goal.invariant_of-self
invariant_of-self c =
    let i = c.self.invariant in
    let own = c.acknowledge_own.ensures.after in (
      i.0,
      search rules,
      i.2,
      search rules,
      rw (own, c.serve_self.ensures.view) (tied_ack (arc_value c.self.inside.config) c.self.inside.seat.view.orders c.self.inside.tickets c.args.ticket c.self.inside.hart _ i.1 i.3.hart_is i.4),
      rw own (counted_ack c.self.inside.tickets c.self.inside.outboxes.items c.args.ticket c.self.inside.hart i.1 i.5),
    )
