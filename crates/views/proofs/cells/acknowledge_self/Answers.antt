use Rattle.std.proofs.Common.{sym, subst, ap, ◌∙◌}
use Rattle.shoot.specs.Acknowledgement.{IsAskable, acknowledgement}
use Rattle.shoot.specs.Request.{Request}
use Rattle.views.specs.OrderTurns.{IsAsking}
use Rattle.views.proofs.CellKeeps.{acknowledges-self-by}
use Rattle.tlb.specs.Service.{after_service}
use Rattle.views.specs.OnBoard.{IsWithin}
use Rattle.views.proofs.Within.{within_dropped}
use Rattle.views.proofs.cells.acknowledge_self.Goals as goal

pub store-requires-clause-steps : goal.store-requires-clause-steps
store-requires-clause-steps c =
    rw (c.requires.fit.key_is, c.cell-at.ensures.value, sym c.requires.hart)
    (acknowledges-self-by c.args.config.now c.args.seat.now.id c.args.seat.now.view c.request.inside.ticket c.encode-word.result c.request.inside.what c.request.invariant
    (subst (λ (m : Request). IsAskable m.what) (sym c.request.view_is) c.encode-word.ensures.asked)
    (subst (λ (m : Request). IsAsking c.args.config.now c.args.seat.now.view m.ticket m.what) (sym c.request.view_is) c.requires.asks)
    (c.encode-word.ensures.word ∙ ap (λ (m : Request). acknowledgement m.what) (sym c.request.view_is)))

pub store-requires-clause-within : goal.store-requires-clause-within
store-requires-clause-within c was =
    subst (λ (m : Request). IsWithin c.args.seat.now.tlb.entries (after_service c.args.seat.now.view.entries m.what)) (sym c.request.view_is)
    (within_dropped c.args.seat.now.tlb.entries c.args.seat.now.view.entries c.args.request.now.what c.requires.served was)
