use Rattle.std.proofs.Common.{◌≡◌, ◌∙◌, ap, sym, subst}
use Rattle.atomic_table.specs.Table.{Joins}
use Rattle.views.specs.declared.view.SeatView.{SeatView}
use Rattle.views.specs.Gathered.{BoardAndSeats, GatheredState, given_up, with_gathered}
use Rattle.views.proofs.Gathering.{seat-joins}
use Rattle.views.proofs.gathered.Gathered.add.Goals as goal

pub join_seat-requires : goal.join_seat-requires
join_seat-requires c =
    let right = c.self.inside.right in
    let other = c.into_right-other.result in
    let key = c.args.words.now.key in
    let view = c.args.seat.view in
    let is = c.into_right-other.ensures.seat in (
      subst (λ (p : GatheredState). p.table_id ≡ c.args.words.now.table_id) (sym c.self.view_is) c.requires.same.0,
      c.into_right-other.ensures.table ∙ c.requires.same.1,
      ap (λ m. m.1) is,
      c.requires.inside,
      subst (λ (m : SeatView). Joins (BoardAndSeats key) right.id right.me.0 other.id m (with_gathered m.view right.me.0) (given_up m.view)) (sym (ap (λ m. m.0) is))
          (seat-joins key right.id right.me.0 other.id view c.self.invariant.1),
    )
