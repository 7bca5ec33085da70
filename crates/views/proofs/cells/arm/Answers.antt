use Rattle.std.proofs.Common.{sym, subst}
use Rattle.views.specs.declared.view.View.{View}
use Rattle.views.specs.OrderTurns.{IsAwaiting}
use Rattle.views.proofs.Asking.{armed-awaits}
use Rattle.views.proofs.CellKeeps.{arms}
use Rattle.views.proofs.cells.arm.Goals as goal

pub store-requires-clause-steps : goal.store-requires-clause-steps
store-requires-clause-steps c =
    rw (c.requires.fit.key_is, c.cell-at.ensures.value, sym c.requires.hart)
    (arms c.args.config.now c.args.seat.now.id c.args.seat.now.view c.args.ticket c.args.to c.requires.ticket c.requires.to)

pub returns-clause-awaits : goal.returns-clause-awaits
returns-clause-awaits c what asks =
    subst (λ (v : View). IsAwaiting c.args.config.now v c.args.ticket c.args.to what) (sym c.store.ensures.view)
    (armed-awaits c.args.config.now c.args.seat.now.view c.args.ticket c.args.to what asks)
