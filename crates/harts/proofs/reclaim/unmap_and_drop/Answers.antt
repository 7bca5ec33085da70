use Rattle.std.proofs.Common.{◌≡◌, ◌∙◌, ap, sym, subst, Ok, Err, Some, refl, arith}
use Rattle.std.specs.Prelude.{is_ok}
use Rattle.std.proofs.lemmas.Bool.{true≢false}
use Rattle.std.proofs.lemmas.Result.{err_from_is_err_and}
use Rattle.shoot.specs.Tickets.{is_open}
use Rattle.spaces.specs.declared.wishes.Wish.TheVariants.{Unmap}
use Rattle.board.specs.Answers.{after_ack_self, after_post, after_serve, known_room, known_waiting}
use Rattle.board.specs.Collects.{AreAllCollected, IsCollected}
use Rattle.board.specs.Ports.{PortName, inbox_from, name_of, outbox_to}
use Rattle.board.specs.Promises.{IsUnmapping, TranslateNone}
use Rattle.board.specs.Tables.{page_request}
use Rattle.harts.specs.Free.{after_asking, request_for}
use Rattle.harts.specs.Refused.{left_by}
use Rattle.harts.proofs.Dropping.{IfSome-same, asked_for, no_ok, not_dropped, ok_is, request_is, serves_one, serves_same, some_is}
use Rattle.harts.proofs.Freeing.{freed}
use Rattle.harts.proofs.Refusing.{at_end, at_post, at_serve, at_unmap, left_at_post, left_at_serve, left_at_unmap, is_true_in, no_ack, no_collect, one_refusal, ports_left, serves, takes}
use Rattle.harts.proofs.reclaim.unmap_and_drop.Goals as goal

pub returns-in_err-ticket : goal.returns-in_err-ticket
returns-in_err-ticket c =
    let zero = c.args.zero.now in
    let one = c.args.one.now in
    let place = c.args.place in
    let page = c.args.page in
    let own = c.held.ensures.own in
    let R = c.from_residual.result in
    let p = err_from_is_err_and R c.from_residual.ensures.1 in
    let gives : R ≡ Err c.in_err-ticket.field-0.0 = p.1 ∙ ap (λ r. Err r) p.2 in
    let answer = sym c.in_err-ticket.ensures.answer in
    let room = known_room (outbox_to c.unmap.new.self 1) in
    record {
      free = λ done. absurd (true≢false (ap is_ok (sym done ∙ gives)));
      answers = not_dropped zero one c.unmap.new.self one place page R c.in_err-ticket.field-0.0 gives (λ h. true≢false (ap is_ok (sym h.unmapped ∙ answer)));
      met = no_ok R c.in_err-ticket.field-0.0 _ gives;
      refused = at_unmap zero one c.requires.ports own place page R c.in_err-ticket.field-0.0 answer gives;
      stays = ports_left R one one c.unmap.new.self (left_by zero place page room) refl (λ r _. left_at_unmap zero one c.requires.ports own place page c.unmap.new.self room c.in_err-ticket.field-0.0 answer c.in_err-ticket.ensures.after r);
    }

pub returns-in_err-post : goal.returns-in_err-post
returns-in_err-post c =
    let zero = c.args.zero.now in
    let one = c.args.one.now in
    let place = c.args.place in
    let page = c.args.page in
    let own = c.held.ensures.own in
    let ticket = c.in_ok-ticket.ticket in
    let unmapped = c.unmap.new.self in
    let answer = sym c.in_ok-ticket.ensures.answer in
    let made = c.in_ok-ticket.ensures.after in
    let same = c.in_ok-ticket.ensures.same in
    let law = c.unmapping_stays_open.ensures in
    let stands = subst (λ p. IsUnmapping p ticket place page 3) (sym made) (law.opens zero place page 3 ticket answer) in
    let R = c.from_residual-in_err-post.result in
    let p = err_from_is_err_and R c.from_residual-in_err-post.ensures.1 in
    let gives : R ≡ Err c.in_err-post.field-0.0 = p.1 ∙ ap (λ r. Err r) p.2 in
    let room = known_room (outbox_to c.post.new.self 1) in
    record {
      free = λ done. absurd (true≢false (ap is_ok (sym done ∙ gives)));
      answers = not_dropped zero one c.post.new.self one place page R c.in_err-post.field-0.0 gives (λ h. serves_one one (takes zero one c.requires.ports own place page) _ _ h.served);
      met = no_ok R c.in_err-post.field-0.0 _ gives;
      refused = at_post zero one c.requires.ports own place page ticket unmapped answer made same stands c.post.result c.post.ensures.refused R c.post.ensures.full
          c.in_err-post.field-0.0 c.in_err-post.was gives;
      stays = ports_left R one one c.post.new.self (left_by zero place page room) refl (
          left_at_post zero one c.requires.ports own place page ticket unmapped answer made same stands c.post.result c.post.ensures.refused R c.post.ensures.full
          c.in_err-post.field-0.0 c.in_err-post.was gives c.post.new.self room c.in_err-post.ensures.unchanged);
    }

pub returns-in_err-served : goal.returns-in_err-served
returns-in_err-served c =
    let zero = c.args.zero.now in
    let one = c.args.one.now in
    let place = c.args.place in
    let page = c.args.page in
    let own = c.held.ensures.own in
    let ticket = c.in_ok-ticket.ticket in
    let unmapped = c.unmap.new.self in
    let answer = sym c.in_ok-ticket.ensures.answer in
    let made = c.in_ok-ticket.ensures.after in
    let same = c.in_ok-ticket.ensures.same in
    let law = c.unmapping_stays_open.ensures in
    let stands = subst (λ p. IsUnmapping p ticket place page 3) (sym made) (law.opens zero place page 3 ticket answer) in
    let R = c.from_residual-in_err-served.result in
    let p = err_from_is_err_and R c.from_residual-in_err-served.ensures.1 in
    let gives : R ≡ Err c.in_err-served.field-0.0 = p.1 ∙ ap (λ r. Err r) p.2 in
    let room = known_room (outbox_to c.post.new.self 1) in
    let empty = (c.in_err-served.ensures.empty (serves zero one c.requires.ports own place page)).0 in
    record {
      free = λ done. absurd (true≢false (ap is_ok (sym done ∙ gives)));
      answers = not_dropped zero one c.post.new.self c.serve.new.self place page R c.in_err-served.field-0.0 gives
          (λ h. serves_one one (takes zero one c.requires.ports own place page) _ _ (sym c.in_err-served.ensures.unchanged ∙ h.served));
      met = no_ok R c.in_err-served.field-0.0 _ gives;
      refused = at_serve zero one c.requires.ports own place page ticket unmapped answer made same stands c.post.result c.post.ensures.refused R c.in_ok-post.was c.serve.result c.serve.ensures.empty
          c.in_err-served.field-0.0 c.in_err-served.was gives;
      stays = ports_left R c.serve.new.self one c.post.new.self (left_by zero place page room) c.in_err-served.ensures.unchanged (
          λ r e.
          left_at_serve zero one c.requires.ports own place page ticket unmapped answer made same stands c.post.result c.post.ensures.refused R c.in_ok-post.was c.post.new.self c.in_ok-post.ensures.accepted r
          (one_refusal R r c.in_err-served.field-0.0 e gives ∙ empty));
    }

pub returns-in_err-ack_self : goal.returns-in_err-ack_self
returns-in_err-ack_self c =
    let zero = c.args.zero.now in
    let one = c.args.one.now in
    let place = c.args.place in
    let page = c.args.page in
    let own = c.held.ensures.own in
    let ticket = c.in_ok-ticket.ticket in
    let unmapped = c.unmap.new.self in
    let answer = sym c.in_ok-ticket.ensures.answer in
    let made = c.in_ok-ticket.ensures.after in
    let same = c.in_ok-ticket.ensures.same in
    let law = c.unmapping_stays_open.ensures in
    let stands = subst (λ p. IsUnmapping p ticket place page 3) (sym made) (law.opens zero place page 3 ticket answer) in
    let posted = subst (λ p. IsUnmapping p ticket place page 3) (sym c.in_ok-post.ensures.accepted) (law.stays unmapped unmapped ticket 1 _ place page 3 stands).0 in
    absurd (no_ack c.post.new.self ticket place page posted c.in_err-ack_self.field-0.0 c.in_err-ack_self.ensures.answer)

pub returns-in_err-collected : goal.returns-in_err-collected
returns-in_err-collected c =
    let zero = c.args.zero.now in
    let one = c.args.one.now in
    let place = c.args.place in
    let page = c.args.page in
    let own = c.held.ensures.own in
    let ticket = c.in_ok-ticket.ticket in
    let unmapped = c.unmap.new.self in
    let answer = sym c.in_ok-ticket.ensures.answer in
    let made = c.in_ok-ticket.ensures.after in
    let same = c.in_ok-ticket.ensures.same in
    let law = c.unmapping_stays_open.ensures in
    let stands = subst (λ p. IsUnmapping p ticket place page 3) (sym made) (law.opens zero place page 3 ticket answer) in
    let posted = subst (λ p. IsUnmapping p ticket place page 3) (sym c.in_ok-post.ensures.accepted) (law.stays unmapped unmapped ticket 1 _ place page 3 stands).0 in
    let acked = subst (λ p. IsUnmapping p ticket place page 3) (sym c.in_ok-ack_self.ensures.after) (law.stays c.post.new.self c.post.new.self ticket 0 0 place page 3 posted).1 in
    absurd (no_collect c.ack_self.new.self ticket place page acked c.in_err-collected.field-0.0 c.collect.new.self.tickets c.in_err-collected.ensures.answer)

pub returns : goal.returns
returns c =
    let zero = c.args.zero.now in
    let one = c.args.one.now in
    let place = c.args.place in
    let page = c.args.page in
    let own = c.held.ensures.own in
    let ticket = c.in_ok-ticket.ticket in
    let unmapped = c.unmap.new.self in
    let answer = sym c.in_ok-ticket.ensures.answer in
    let made = c.in_ok-ticket.ensures.after in
    let same = c.in_ok-ticket.ensures.same in
    let law = c.unmapping_stays_open.ensures in
    let stands = subst (λ p. IsUnmapping p ticket place page 3) (sym made) (law.opens zero place page 3 ticket answer) in
    let posted = subst (λ p. IsUnmapping p ticket place page 3) (sym c.in_ok-post.ensures.accepted) (law.stays unmapped unmapped ticket 1 _ place page 3 stands).0 in
    let acked = subst (λ p. IsUnmapping p ticket place page 3) (sym c.in_ok-ack_self.ensures.after) (law.stays c.post.new.self c.post.new.self ticket 0 0 place page 3 posted).1 in
    let collected = (law.stays c.ack_self.new.self c.collect.new.self ticket 0 0 place page 3 acked).2 (c.in_ok-collected.ensures.after acked.is_open) in
    let after = c.collect.new.self in
    let names = c.in_ok-collected.ensures.same ∙ (c.in_ok-ack_self.ensures.same ∙ (c.in_ok-post.ensures.same ∙ same)) in
    let for = request_for zero place page ticket in
    let asked = request_is c.request_of-asked.result (is_open unmapped.tickets ticket) for
    (IfSome-same c.request_of-asked.result (asked_for zero place page ticket unmapped answer made) c.request_of-asked.ensures.request) c.request_of-asked.ensures.none stands.is_open in
    let taken = c.in_ok-served.ensures.taken in
    let done = c.in_ok-collected.ensures.done acked.is_open in
    let dropped = c.have_dropped.ensures in
    let room = known_room (outbox_to c.post.new.self 1) in
    let asking = after_asking zero place page ticket room in
    let asked_and_acked : c.ack_self.new.self ≡ asking = c.in_ok-ack_self.ensures.after ∙ ap (λ p. after_ack_self p ticket) (c.in_ok-post.ensures.accepted ∙ ap (λ p. after_post p ticket 1 room) made) in
    let whole : name_of asking ≡ name_of zero = ap name_of (sym asked_and_acked) ∙ (c.in_ok-ack_self.ensures.same ∙ (c.in_ok-post.ensures.same ∙ same)) in
    let one_setup : one.setup ≡ after.setup = c.requires.ports.of_setup 1 (name_of one) (omega arith) ∙ sym (ap (λ n. n.setup) names) in
    record {
      free = λ e.
          let both = dropped.0 (ap is_true_in e) in
          let is : for ≡ c.in_ok-served.served = some_is (sym asked ∙ both.0) in
          let clean = c.in_ok-collected.ensures.clean (ap (λ k. Ok k) both.1) in
          freed zero.setup zero one after c.serve.new.self ticket place page c.requires.ports (ap (λ n. n.hart) names) c.held-3.ensures.within collected clean
          (subst (λ p. TranslateNone after.view.config p.tlb.entries place page) (sym taken)
          (c.serving_drops_the_page.ensures after one ticket place page 3 0 c.in_ok-served.served (known_waiting (inbox_from c.serve.new.self 0)) collected clean.now clean.has_view c.held-2.ensures.clean.now c.held-2.ensures.clean.has_view one_setup c.held-2.ensures.within
          (ap (λ r. r.what) (sym is) ∙ ap (λ s. page_request s (Unmap place page)) (sym (ap (λ n. n.setup) names)))));
      answers = (
        (λ e.
            let both = dropped.0 (ap is_true_in e) in
            record {
              ticket = ticket;
              unmapped = answer;
              served = taken ∙ ap (λ r. after_serve one 0 r (known_waiting (inbox_from c.serve.new.self 0))) (some_is (sym both.0 ∙ asked));
              collected = done.0 (ap (λ k. Ok k) both.1);
            }),
        (λ h.
            let is : h.ticket ≡ ticket = ok_is (sym h.unmapped ∙ answer) in
            let r : c.in_ok-served.served ≡ for =
            serves_same one (takes zero one c.requires.ports own place page) c.in_ok-served.served (request_for zero place page h.ticket) _ _ (sym taken ∙ h.served) ∙ ap (request_for zero place page) is in
            ap (λ b. Ok b) (dropped.1 (asked ∙ ap (λ x. Some x) (sym r), ok_is (done.1 (subst (AreAllCollected after) is h.collected))))),
      );
      met = record {
        ticket = ticket;
        unmapped = answer;
        room = room;
        looked = subst (λ (n : PortName). IsCollected asking ticket n.setup.harts after) whole (subst (λ p. IsCollected p ticket p.setup.harts after) asked_and_acked (c.in_ok-collected.ensures.after acked.is_open));
        request = c.in_ok-served.served;
        served = taken;
        oldest = c.in_ok-served.ensures.oldest;
      };
      refused = at_end zero one c.requires.ports own place page ticket unmapped answer made same stands c.post.result c.post.ensures.refused _ c.in_ok-post.was c.have_dropped.result refl;
      stays = tt;
    }
