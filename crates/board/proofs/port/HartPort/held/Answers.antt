use Rattle.std.proofs.Common.{◌≡◌, ap, subst}
use Rattle.history.specs.Setup.{setup_of}
use Rattle.views.specs.OnBoard.{IsWithin}
use Rattle.board.specs.Ports.{PortState}
use Rattle.board.specs.Promises.{StaysClean}
use Rattle.board.proofs.Promises.{stays_clean}
use Rattle.board.proofs.port.HartPort.held.Goals as goal

pub returns : goal.returns
returns c =
    let i = c.self.invariant in
    record {
      own = subst (λ (p : PortState). p.tickets.hart ≡ p.hart) c.self.view_is i.1;
      within = subst (λ (p : PortState). IsWithin p.tlb.entries p.view.entries) c.self.view_is c.held.ensures;
      clean = subst StaysClean c.self.view_is (stays_clean _ (ap setup_of i.3.fit.config) i.3.hart_is i.3.fit.on_board);
    }
