use Rattle.std.specs.Arc.{arc_value}
use Rattle.history.specs.Setup.{setup_of}
use Rattle.board.proofs.Counts.{outboxes_count, inboxes_count}
use Rattle.board.proofs.port.HartPort.harts.Goals as goal

pub returns-clause-outboxes : goal.returns-clause-outboxes
returns-clause-outboxes c = rw (← c.self.view_is, c.deref.ensures) (outboxes_count (setup_of (arc_value c.self.inside.config)) c.self.inside.hart c.self.inside.outboxes.items c.self.invariant.2.outs)

pub returns-clause-inboxes : goal.returns-clause-inboxes
returns-clause-inboxes c = rw (← c.self.view_is, c.deref.ensures) (inboxes_count (setup_of (arc_value c.self.inside.config)) c.self.inside.hart c.self.inside.inboxes.items c.self.invariant.2.ins)
