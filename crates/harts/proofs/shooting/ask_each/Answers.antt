use Rattle.std.proofs.Common.{◌≡◌, ◌∙◌, true, false, refl, sym, ap, subst}
use Rattle.std.proofs.lemmas.Bool.{true≢false}
use Rattle.board.specs.Calls.{KeepsUnmappings}
use Rattle.board.specs.Ports.{name_of}
use Rattle.shoot.specs.HartSet.{contains}
use Rattle.harts.specs.Asks.{Asks, AsksBelow}
use Rattle.harts.proofs.Asking.{asks_more, keeps_both}
use Rattle.harts.proofs.shooting.ask_each.Goals.{then-contains+in_ok-ask, else-contains}
use Rattle.harts.proofs.shooting.ask_each.Goals as goal

pub loop-to-init : goal.loop-to-init
unfolding AsksBelow
loop-to-init c = record { same = refl; asked = refl; keeps = λ ticket place page named is. is }

pub loop-to-preserved : goal.loop-to-preserved
loop-to-preserved c =
    let port = c.args.port.now in
    let at = c.loop-to in
    let after = c.if-contains.port in
    elim c.if-contains.branch [
      | then-contains+in_ok-ask w ↦
          let so : contains c.args.named at.to ≡ true = sym c.contains.ensures ∙ w.if-contains.true in
          record {
            same = ap name_of w.port-is ∙ (w.in_ok-ask.ensures.same ∙ at.invariant.same);
            asked = asks_more at.to c.args.named c.args.ticket port at.port after at.invariant.asked (λ _. subst (λ q. Asks c.args.ticket at.to at.port q) (sym w.port-is) w.in_ok-ask.ensures.asked)
                (λ e. absurd (true≢false (sym so ∙ e)));
            keeps = keeps_both port at.port after at.invariant.keeps (subst (λ q. KeepsUnmappings at.port q) (sym w.port-is) w.in_ok-ask.ensures.keeps);
          }
      | else-contains w ↦
          let so : contains c.args.named at.to ≡ false = sym c.contains.ensures ∙ w.if-contains.false in
          record {
            same = ap name_of w.port-is ∙ at.invariant.same;
            asked = asks_more at.to c.args.named c.args.ticket port at.port after at.invariant.asked (λ e. absurd (true≢false (sym e ∙ so))) (λ _. w.port-is);
            keeps = subst (λ q. KeepsUnmappings port q) (sym w.port-is) at.invariant.keeps;
          }
    ]
