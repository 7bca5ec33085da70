use Rattle.std.proofs.Common.{sym, subst}
use Rattle.shoot.specs.Request.{Request}
use Rattle.views.specs.declared.view.View.{View}
use Rattle.views.specs.OrderTurns.{IsAwaiting}
use Rattle.views.proofs.Asking.{looked-awaits}
use Rattle.views.proofs.CellKeeps.{looks}
use Rattle.views.proofs.cells.collect.Goals as goal

pub load-word-requires-clause-steps : goal.load-word-requires-clause-steps
load-word-requires-clause-steps c =
    rw (c.requires.fit.key_is, c.cell-at.ensures.value, sym c.requires.hart)
    (looks c.args.config.now c.args.seat.now.id c.args.seat.now.view c.request.inside.ticket c.args.from c.request.inside.what c.requires.from
    (subst (λ (m : Request). IsAwaiting c.args.config.now c.args.seat.now.view m.ticket c.args.from m.what) (sym c.request.view_is) c.requires.awaits))

pub returns-clause-awaits : goal.returns-clause-awaits
returns-clause-awaits c =
    subst (λ (m : Request). IsAwaiting c.args.config.now c.load-word.new.seat.view m.ticket c.args.from m.what) c.request.view_is
    (subst (λ (v : View). IsAwaiting c.args.config.now v c.request.inside.ticket c.args.from c.request.inside.what) (sym c.load-word.ensures.view)
    (looked-awaits c.args.config.now c.args.seat.now.view c.request.inside.ticket c.args.from c.load-word.result c.request.inside.what
    (subst (λ (m : Request). IsAwaiting c.args.config.now c.args.seat.now.view m.ticket c.args.from m.what) (sym c.request.view_is) c.requires.awaits)))
