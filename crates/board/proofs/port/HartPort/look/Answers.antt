use Rattle.std.proofs.Common.{rules, ap, refl, sym, subst, ◌≡◌, ◌≢◌, ◌∙◌, Some}
use Rattle.std.specs.Prelude.{IsTrue}
use Rattle.std.specs.Arc.{arc_value}
use Rattle.shoot.specs.Tickets.{ticket_at, what_at}
use Rattle.board.specs.Ports.{PortState}
use Rattle.board.specs.Ties.{awaits}
use Rattle.board.proofs.Ties.{awaiting, counted_found, named_acked, open_found, some_outstanding, tied_found}
use Rattle.board.proofs.port.HartPort.look.Goals as goal

pub collect-requires-clause-awaits : goal.collect-requires-clause-awaits
collect-requires-clause-awaits c =
    let waits = subst (λ (p : PortState). IsTrue (awaits c.args.from (ticket_at p.tickets c.args.ticket))) (sym c.self.view_is) c.in-Some.ensures.awaits in
    let other = subst (λ (p : PortState). c.args.from ≢ p.hart) (sym c.self.view_is) c.in-Some.ensures.other in
    let what = subst (λ (p : PortState). what_at p.tickets c.args.ticket ≡ Some c.in-Some.request.what) (sym c.self.view_is) c.in-Some.ensures.what in
    let v = c.self.inside.seat.view in
    rw (c.deref-2.ensures, ap (λ m. m.ticket) c.in-Some.ensures.request)
    (awaiting (arc_value c.self.inside.config) v.orders c.self.inside.tickets c.args.ticket c.args.from waits (λ e. other (e ∙ c.self.invariant.1)) v c.in-Some.request.what refl what c.self.invariant.4)

pub acked-requires : goal.acked-requires
acked-requires c =
    let waits = subst (λ (p : PortState). IsTrue (awaits c.args.from (ticket_at p.tickets c.args.ticket))) (sym c.self.view_is) c.in-Some.ensures.awaits in
    (named_acked (arc_value c.self.inside.config) c.self.inside.seat.view.orders c.self.inside.tickets c.args.ticket c.args.from waits c.self.invariant.4).0

pub collect-requires-2 : goal.collect-requires-2
collect-requires-2 c =
    let waits = subst (λ (p : PortState). IsTrue (awaits c.args.from (ticket_at p.tickets c.args.ticket))) (sym c.self.view_is) c.in-Some.ensures.awaits in
    let config = arc_value c.self.inside.config in
    let orders = c.self.inside.seat.view.orders in
    let tickets = c.self.inside.tickets in
    let i = c.self.invariant in
    rw c.acked.ensures (named_acked config orders tickets c.args.ticket c.args.from waits i.4).1

pub release_at-requires-clause-some : goal.release_at-requires-clause-some
release_at-requires-clause-some c end at =
    let waits = subst (λ (p : PortState). IsTrue (awaits c.args.from (ticket_at p.tickets c.args.ticket))) (sym c.self.view_is) c.in-Some.ensures.awaits in
    let other = subst (λ (p : PortState). c.args.from ≢ p.hart) (sym c.self.view_is) c.in-Some.ensures.other in
    let config = arc_value c.self.inside.config in
    let orders = c.self.inside.seat.view.orders in
    let tickets = c.self.inside.tickets in
    let i = c.self.invariant in
    some_outstanding config orders tickets c.args.ticket c.args.from waits (λ e. other (e ∙ i.1)) c.self.inside.outboxes.items end i.4 i.5 at

pub invariant_of-self-2 : goal.invariant_of-self-2
invariant_of-self-2 c =
    let waits = subst (λ (p : PortState). IsTrue (awaits c.args.from (ticket_at p.tickets c.args.ticket))) (sym c.self.view_is) c.in-Some.ensures.awaits in
    let other = subst (λ (p : PortState). c.args.from ≢ p.hart) (sym c.self.view_is) c.in-Some.ensures.other in
    let config = arc_value c.self.inside.config in
    let orders = c.self.inside.seat.view.orders in
    let tickets = c.self.inside.tickets in
    let i = c.self.invariant in
    let same = ap (λ m. m.ticket) c.in-Some.ensures.request in (
      i.0,
      search rules,
      rw c.release_at.ensures.same i.2,
      search rules,
      rw (c.collect-2.ensures.after, c.acked.ensures, c.if-not-collect.ensures.view, same) (tied_found config orders tickets c.args.ticket c.args.from waits (λ e. other (e ∙ i.1)) i.4),
      rw (c.collect-2.ensures.after, c.acked.ensures, c.release_at.ensures.released)
          (counted_found config orders tickets c.args.ticket c.args.from waits (λ e. other (e ∙ i.1)) c.self.inside.outboxes.items i.4 i.5),
    )

pub returns-clause-open : goal.returns-clause-open
returns-clause-open c _ =
    let waits = subst (λ (p : PortState). IsTrue (awaits c.args.from (ticket_at p.tickets c.args.ticket))) (sym c.self.view_is) c.in-Some.ensures.awaits in
    rw (c.collect-2.ensures.after, c.acked.ensures) (open_found c.self.inside.tickets c.args.ticket c.args.from waits).1
