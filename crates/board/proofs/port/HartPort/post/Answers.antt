use Rattle.std.proofs.Common.{rules, sym, subst, Some, false, ◌≡◌, ◌≢◌, ◌∙◌}
use Rattle.std.specs.Prelude.{IsTrue}
use Rattle.shoot.specs.Tickets.{ticket_posted, names, what_at}
use Rattle.board.specs.Ports.{PortState}
use Rattle.std.specs.Arc.{arc_value}
use Rattle.board.proofs.Ties.{asking, counted_posted, tied_armed, tied_posted}
use Rattle.board.proofs.port.HartPort.post.Goals as goal

pub post_at-requires-clause-armed : goal.post_at-requires-clause-armed
post_at-requires-clause-armed c =
    let what = subst (λ (p : PortState). what_at p.tickets c.args.ticket ≡ Some c.in_ok-request.request.what) (sym c.self.view_is) c.in_ok-request.ensures.what in
    let asks = asking (arc_value c.self.inside.config) c.self.inside.seat.view c.self.inside.tickets c.args.ticket c.in_ok-request.request.what what c.self.invariant.4 in
    rw (c.deref-3.ensures, sym c.deref-2.ensures, c.in_ok-request.ensures.ticket) (c.arm.ensures.awaits c.in_ok-request.request.what (rw c.deref-2.ensures asks))

pub invariant_of-self : goal.invariant_of-self
invariant_of-self c =
    let i = c.self.invariant in (
      i.0,
      i.1,
      rw c.post_at.ensures.same i.2,
      search rules,
      rw c.arm.ensures.view (tied_armed (arc_value c.self.inside.config) c.self.inside.seat.view.orders c.self.inside.tickets c.args.ticket c.args.to i.4),
      rw c.in_err-post_at.ensures.unchanged i.5,
    )

pub invariant_of-self-2 : goal.invariant_of-self-2
invariant_of-self-2 c =
    let i = c.self.invariant in
    let config = arc_value c.self.inside.config in
    let orders = c.self.inside.seat.view.orders in
    let tickets = c.self.inside.tickets in
    let named : IsTrue (names tickets c.args.ticket c.args.to) = subst (λ (p : PortState). IsTrue (names p.tickets c.args.ticket c.args.to)) (sym c.self.view_is) c.in_ok-request.ensures.names in
    let unposted : ticket_posted tickets c.args.ticket c.args.to ≡ false = subst (λ (p : PortState). ticket_posted p.tickets c.args.ticket c.args.to ≡ false) (sym c.self.view_is) c.in_ok-request.ensures.unposted in
    let other : c.args.to ≢ c.self.inside.hart = subst (λ (p : PortState). c.args.to ≢ p.hart) (sym c.self.view_is) c.in_ok-request.ensures.other in (
      i.0,
      search rules,
      rw c.post_at.ensures.same i.2,
      search rules,
      rw (c.posted.ensures, c.arm.ensures.view) (tied_posted config orders tickets c.args.ticket c.args.to named i.4),
      rw (c.posted.ensures, c.in_ok-post_at.ensures.accepted) (
          counted_posted config orders tickets c.self.inside.outboxes.items c.args.ticket c.args.to _ _ named unposted (λ e. other (e ∙ i.1)) i.4 i.5),
    )
