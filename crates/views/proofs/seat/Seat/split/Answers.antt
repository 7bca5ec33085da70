use Rattle.std.proofs.Common.{◌≡◌, ap, sym, subst}
use Rattle.atomic_table.specs.Table.{Splits}
use Rattle.views.specs.declared.view.SeatView.{SeatView}
use Rattle.views.specs.Rule.{dealer, dealt}
use Rattle.views.specs.Board.{Board}
use Rattle.views.specs.Gathered.{BoardAndSeats, in_use}
use Rattle.views.specs.OnBoard.{SeatState}
use Rattle.views.proofs.Gathering.{seat-splits}
use Rattle.views.proofs.seat.Seat.split.Goals as goal

pub split_seat-right-requires : goal.split_seat-right-requires
split_seat-right-requires c =
    let right = c.self.inside.right in
    let key = c.args.words.now.key in (
      subst (λ (p : SeatState). p.table_id ≡ c.args.words.now.table_id) (sym c.self.view_is) c.requires.same,
      c.requires.inside,
      subst (λ (m : SeatView). Splits (BoardAndSeats key) right.id m (in_use (dealer m.view)) (in_use (dealt m.view))) (sym (ap (λ m. m.0) c.self.invariant.0))
          (seat-splits key right.id right.me.0.view
          (subst (λ (p : SeatState). Splits (Board key) p.id p.view (dealer p.view) (dealt p.view)) (sym c.self.view_is) c.requires.splits)),
    )
