use Rattle.std.proofs.Common.{rules}
use Rattle.std.specs.Arc.{arc_value}
use Rattle.board.proofs.Ties.{counted_finished, tied_finished}
use Rattle.board.proofs.port.HartPort.finish.Goals as goal

pub invariant_of-self : goal.invariant_of-self
invariant_of-self c =
    let i = c.self.invariant in
    let config = arc_value c.self.inside.config in
    let orders = c.self.inside.seat.view.orders in (
      i.0,
      search rules,
      i.2,
      i.3,
      rw c.finish.ensures.after (tied_finished config orders c.self.inside.tickets c.args.ticket i.4),
      rw c.finish.ensures.after (counted_finished config orders c.self.inside.tickets c.self.inside.outboxes.items c.args.ticket i.4 i.5),
    )
