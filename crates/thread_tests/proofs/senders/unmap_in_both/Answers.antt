use Rattle.std.proofs.Common.{◌∙◌, sym, subst}
use Rattle.board.specs.Promises.{IsUnmapping}
use Rattle.thread_tests.proofs.senders.unmap_in_both.Goals as goal

pub returns-clause-gone : goal.returns-clause-gone
returns-clause-gone c is =
    let law = c.unmapping_stays_open.ensures in
    let place = c.args.place in
    let page = c.args.page in
    let ticket = c.in-Ok.ticket in
    let opens = subst (λ p. IsUnmapping p ticket place page 3) (sym c.unmap.ensures.after) (law.opens c.args.port.now place page 3 ticket (sym c.unmap.ensures.answer ∙ c.in-Ok.is)) in
    let posted = c.post_until_accepted.ensures.stays ticket place page 3 opens in
    let acked = law.through_calls _ _ _ ticket place page 3 c.ack_self-own.ensures.call (λ ends. ends) posted in
    let collected = c.collect_until_done.ensures.stays ticket place page 3 acked in
    law.done c.collect_until_done.new.port ticket place page 3 collected (c.collect_until_done.ensures.done is)
