use Rattle.std.proofs.Common.{◌≡◌, ◌∙◌, ap, sym, subst}
use Rattle.history.specs.Setup.{setup_of}
use Rattle.views.specs.OnBoard.{IsWithin, SeatState}
use Rattle.board.proofs.Together.{two_shared}
use Rattle.board.proofs.port.HartPort.meet.Goals as goal

pub returns-clause-together : goal.returns-clause-together
returns-clause-together c =
    let same = c.meet.ensures.same in
    two_shared _ _ c.meet.ensures.together
    record {
      config = ap (λ (s : SeatState). setup_of s.view.config) same.0 ∙ ap setup_of c.self.invariant.3.fit.config;
      hart = ap (λ (s : SeatState). s.view.hart) same.0 ∙ c.self.invariant.3.hart_is;
      within = subst (λ (s : SeatState). IsWithin s.tlb.entries s.view.entries) (sym same.0) c.held.ensures;
    }
    record {
      config = ap (λ (s : SeatState). setup_of s.view.config) same.1 ∙ ap setup_of c.other.invariant.3.fit.config;
      hart = ap (λ (s : SeatState). s.view.hart) same.1 ∙ c.other.invariant.3.hart_is;
      within = subst (λ (s : SeatState). IsWithin s.tlb.entries s.view.entries) (sym same.1) c.held-2.ensures;
    }
