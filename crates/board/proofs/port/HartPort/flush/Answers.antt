use Rattle.std.proofs.Common.{rules, refl, sym, ap, ◌∙◌}
use Rattle.std.specs.Arc.{arc_value}
use Rattle.shoot.specs.Tickets.{answer_for}
use Rattle.views.specs.declared.view.Cause.TheVariants.{Other}
use Rattle.board.proofs.Ties.{counted_opened, tied_opened}
use Rattle.board.proofs.port.HartPort.flush.Goals as goal

pub invariant_of-self-2 : goal.invariant_of-self-2
invariant_of-self-2 c =
    let i = c.self.invariant in
    let named = c.in-Some.ensures.some.1 in
    let opened = sym (c.open_for.ensures.answer ∙ ap (answer_for c.self.inside.tickets) named) ∙ c.in-Ok.is in (
      i.0,
      search rules,
      i.2,
      search rules,
      rw (c.open_for.ensures.after, named, c.open_order.ensures.view, c.request-request.ensures)
          (tied_opened (arc_value c.self.inside.config) c.self.inside.seat.view.orders c.self.inside.tickets c.in-Some-what.what c.args.named c.in-Ok.ticket (Other c.in-Some-what.what) c.self.inside.seat.view.stores opened refl i.4),
      rw (c.open_for.ensures.after, named) (counted_opened c.self.inside.tickets c.self.inside.outboxes.items c.in-Some-what.what c.args.named c.in-Ok.ticket opened i.5),
    )
