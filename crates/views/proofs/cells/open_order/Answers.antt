use Rattle.std.proofs.Common.{sym, subst}
use Rattle.shoot.specs.Request.{Request}
use Rattle.views.specs.declared.view.View.{View}
use Rattle.views.specs.OrderTurns.{IsAsking}
use Rattle.views.proofs.Asking.{ordered-asks}
use Rattle.views.proofs.CellKeeps.{opens-order}
use Rattle.views.proofs.cells.open_order.Goals as goal

pub load-word-requires-clause-steps : goal.load-word-requires-clause-steps
load-word-requires-clause-steps c =
    rw (c.requires.fit.key_is) (opens-order c.args.config.now c.args.seat.now.id c.args.seat.now.view c.cell-at.result c.request.inside.ticket c.request.inside.what
    c.recall.ensures)

pub returns-clause-asks : goal.returns-clause-asks
returns-clause-asks c =
    subst (λ (m : Request). IsAsking c.args.config.now c.load-word.new.seat.view m.ticket m.what) c.request.view_is
    (subst (λ (v : View). IsAsking c.args.config.now v c.request.inside.ticket c.request.inside.what) (sym c.load-word.ensures.view)
    (ordered-asks c.args.config.now c.args.seat.now.view c.request.inside.ticket c.request.inside.what))
