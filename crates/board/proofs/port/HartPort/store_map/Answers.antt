use Rattle.std.proofs.Common.{◌+◌, rules}
use Rattle.std.specs.Arc.{arc_value}
use Rattle.board.proofs.Ties.{tied_mapped}
use Rattle.board.proofs.port.HartPort.store_map.Goals as goal

pub invariant_of-self : goal.invariant_of-self
invariant_of-self c =
    let i = c.self.invariant in (
      i.0,
      i.1,
      i.2,
      search rules,
      rw (c.store.ensures.view, c.deref-2.ensures) (tied_mapped (arc_value c.self.inside.config) c.self.inside.seat.view.orders c.self.inside.tickets c.args.wish.now c.args.edit.now (c.self.inside.seat.view.stores + 1) c.requires.map i.4),
      i.5,
    )
