use Rattle.std.proofs.Common.{◌≡◌, ◌∙◌, ap, sym, subst, Err, inl, inr}
use Rattle.std.specs.Prelude.{IfErr}
use Rattle.std.proofs.lemmas.Result.{err_from_is_err_and}
use Rattle.shoot.specs.HartSet.{harts_in}
use Rattle.spaces.specs.declared.wishes.Wish.TheVariants.{Unmap}
use Rattle.board.specs.Promises.{IsUnmapping}
use Rattle.board.specs.Tables.{after_edit, after_opened}
use Rattle.harts.specs.Asks.{AsksBelow, IsNotShotDown, IsStopped}
use Rattle.harts.proofs.Dropping.{no_ok}
use Rattle.harts.proofs.Asking.{acks}
use Rattle.harts.proofs.shooting.shoot_down.Goals as goal

pub returns-in_err-ticket : goal.returns-in_err-ticket
returns-in_err-ticket c =
    let port = c.args.port.now in
    let named = c.args.named in
    let wish = Unmap c.args.place c.args.page in
    let r = c.in_err-ticket.field-0.0 in
    let R = c.from_residual.result in
    let p = err_from_is_err_and R c.from_residual.ensures.1 in
    let gives : R ≡ Err r = p.1 ∙ ap (λ x. Err x) p.2 in
    let answer = sym c.in_err-ticket.ensures.answer in
    record {
      shot_down = no_ok R r _ gives;
      refused = subst (λ x. IfErr x (IsNotShotDown port c.args.place c.args.page named c.unmap.new.self)) (sym gives) (inl (answer, c.in_err-ticket.ensures.after ∙ ap (after_opened port wish named) answer));
      stays_open = no_ok R r _ gives;
      same = c.in_err-ticket.ensures.same;
    }

pub returns-in_err-ask_each : goal.returns-in_err-ask_each
returns-in_err-ask_each c =
    let port = c.args.port.now in
    let named = c.args.named in
    let ticket = c.in_ok-ticket.ticket in
    let r = c.in_err-ask_each.field-0.0 in
    let R = c.from_residual-in_err-ask_each.result in
    let p = err_from_is_err_and R c.from_residual-in_err-ask_each.ensures.1 in
    let gives : R ≡ Err r = p.1 ∙ ap (λ x. Err x) p.2 in
    let stopped = subst (λ n. IsStopped n ticket c.unmap.new.self c.ask_each.new.port r) c.from.ensures c.in_err-ask_each.ensures.refused in
    record {
      shot_down = no_ok R r _ gives;
      refused = subst (λ x. IfErr x (IsNotShotDown port c.args.place c.args.page named c.ask_each.new.port)) (sym gives)
          (inr (ticket, sym c.in_ok-ticket.ensures.answer, subst (λ q. IsStopped (harts_in named) ticket q c.ask_each.new.port r) c.in_ok-ticket.ensures.after stopped));
      stays_open = no_ok R r _ gives;
      same = c.in_err-ask_each.ensures.same ∙ c.in_ok-ticket.ensures.same;
    }

pub returns-in_err-ack_self : goal.returns-in_err-ack_self
returns-in_err-ack_self c =
    let place = c.args.place in
    let page = c.args.page in
    let named = c.args.named in
    let ticket = c.in_ok-ticket.ticket in
    let law = c.unmapping_stays_open.ensures in
    let stands = subst (λ p. IsUnmapping p ticket place page named) (sym c.in_ok-ticket.ensures.after) (law.opens c.args.port.now place page named ticket (sym c.in_ok-ticket.ensures.answer)) in
    let asked = c.in_ok-ask_each.ensures.keeps ticket place page named stands in
    absurd (acks c.ask_each.new.port ticket asked.is_open c.in_err-ack_self.field-0.0 c.in_err-ack_self.ensures.answer)

pub returns : goal.returns
returns c =
    let place = c.args.place in
    let page = c.args.page in
    let named = c.args.named in
    let ticket = c.in_ok-ticket.ticket in
    let asking = c.ask_each.new.port in
    let law = c.unmapping_stays_open.ensures in
    let answer = sym c.in_ok-ticket.ensures.answer in
    let stands = subst (λ p. IsUnmapping p ticket place page named) (sym c.in_ok-ticket.ensures.after) (law.opens c.args.port.now place page named ticket answer) in
    let asked = c.in_ok-ask_each.ensures.keeps ticket place page named stands in
    record {
      shot_down = record {
        unmapped = answer;
        asking = asking;
        asked = subst (λ n. AsksBelow 8 n ticket (after_edit c.args.port.now (Unmap place page) named) asking) c.from.ensures (subst (λ q. AsksBelow 8 c.from.result ticket q asking) c.in_ok-ticket.ensures.after c.in_ok-ask_each.ensures.asked);
        after_is = c.in_ok-ack_self.ensures.after;
      };
      refused = tt;
      stays_open = subst (λ p. IsUnmapping p ticket place page named) (sym c.in_ok-ack_self.ensures.after) (law.stays asking asking ticket 0 0 place page named asked).1;
      same = c.in_ok-ack_self.ensures.same ∙ (c.in_ok-ask_each.ensures.same ∙ c.in_ok-ticket.ensures.same);
    }
