use Rattle.std.proofs.Common.{◌≡◌, ap, sym, subst}
use Rattle.std.specs.Prelude.{◌↔◌, IsTrue}
use Rattle.std.specs.Arc.{arc_value}
use Rattle.history.specs.Setup.{setup_of}
use Rattle.shoot.specs.declared.tickets.Collected.TheVariants.{Done}
use Rattle.shoot.specs.Tickets.{is_open, progress_at}
use Rattle.board.specs.Ports.{PortState}
use Rattle.board.specs.Collects.{AreAllCollected}
use Rattle.board.specs.Promises.{IsDoneClean}
use Rattle.board.proofs.Collects.{all_collected}
use Rattle.board.proofs.Promises.{done_is_clean}
use Rattle.board.proofs.port.HartPort.progress.Goals as goal

pub returns-clause-done : goal.returns-clause-done
returns-clause-done c = rw c.progress.ensures (subst (λ (p : PortState). (progress_at c.self.inside.tickets c.args.ticket ≡ Done) ↔ AreAllCollected p c.args.ticket) c.self.view_is
    (all_collected (arc_value c.self.inside.config) c.self.inside.seat.view.orders c.self.inside.tickets c.args.ticket
    (subst (λ (p : PortState). IsTrue (is_open p.tickets c.args.ticket)) (sym c.self.view_is) c.requires) c.self.invariant.4))

pub returns-clause-clean : goal.returns-clause-clean
returns-clause-clean c = rw c.progress.ensures (λ is.
    let i = c.self.invariant in
    let all = all_collected (arc_value c.self.inside.config) c.self.inside.seat.view.orders c.self.inside.tickets c.args.ticket
    (subst (λ (p : PortState). IsTrue (is_open p.tickets c.args.ticket)) (sym c.self.view_is) c.requires) i.4 in
    subst (λ (p : PortState). IsDoneClean p c.args.ticket) c.self.view_is
    (done_is_clean _ (ap setup_of i.3.fit.config) i.3.hart_is i.3.fit.on_board c.args.ticket (all.0 is)))
