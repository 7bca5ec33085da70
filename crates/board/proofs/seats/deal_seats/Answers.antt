use Rattle.std.proofs.Common.{◌∙◌, ap, ◌+◌, length, subst, arith}
use Rattle.views.specs.Rule.{dealer, dealt}
use Rattle.board.specs.Seats.{IsNewSeat}
use Rattle.board.proofs.RowsGrow.{length-one_more}
use Rattle.board.proofs.SeatRows.{seats-more, seat-dealt}
use Rattle.board.proofs.seats.deal_seats.Goals as goal

pub loop-hart-preserved : goal.loop-hart-preserved
loop-hart-preserved c =
    let i = c.loop-hart.invariant in
    let z = c.args.words.now.table_id in
    let key = c.args.words.now.key in
    let config = c.args.config.now in
    let e = c.deal-seat.ensures in
    let old = c.loop-hart.seats.items in
    let seat = c.deal-seat.result in
    let count = i.count in
    let new : IsNewSeat z key config c.loop-hart._hart seat = seat-dealt z key config seat c.loop-hart._hart (length old) count e.fit.1 (e.next ∙ ap dealt i.first) e.empty in
    let here : IsNewSeat z key config (1 + length old) seat = subst (λ h. IsNewSeat z key config h seat) (omega (arith, count)) new in
    let items = c.in_ok-push.ensures.items in
    record {
      count = rw items (let more = length-one_more old seat in omega (arith, more, count));
      fit = e.fit.0;
      first = e.first ∙ ap dealer i.first;
      empty = e.tlb ∙ i.empty;
      rest = rw items (seats-more z key config 1 old seat i.rest here);
    }
