use Rattle.std.proofs.Common.{rules}
use Rattle.std.specs.Arc.{arc_value}
use Rattle.board.proofs.Ties.{counted_new, tied_new}
use Rattle.board.proofs.port.HartPort.new.Goals as goal

pub invariant_of-result : goal.invariant_of-result
invariant_of-result c = (
  c.requires.limits,
  search rules,
  search rules,
  search rules,
  rw (c.requires.seat.view, c.new.ensures) (tied_new (arc_value c.args.config) c.args.hart),
  rw c.new.ensures (counted_new _ _ _ c.args.outboxes.items c.requires.outboxes),
)
