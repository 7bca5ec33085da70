use Rattle.std.proofs.Common.{◌≡◌, ◌∙◌, ap, sym, subst, refl, Some, None}
use Rattle.atomic_table.specs.Table.{Joins, Splits, keeps}
use Rattle.views.specs.declared.view.SeatView.{SeatView}
use Rattle.views.specs.Gathered.{BoardAndSeats, IsInUse, in_use, lent, notice}
use Rattle.views.specs.OnBoard.{SeatState}
use Rattle.views.proofs.Gathering.{borrowed-stands, borrows, lends, resumes, returns-notice, seat-steps, stands-together}
use Rattle.views.proofs.Pairs.{sits}
use Rattle.views.proofs.seat.meet.Goals as goal

pub split_seat-notice-requires : goal.split_seat-notice-requires
split_seat-notice-requires c =
    let right = c.other.inside.right in
    let key = c.args.words.now.key in (
      subst (λ (p : SeatState). p.table_id ≡ c.args.words.now.table_id) (sym c.other.view_is) c.requires.same.1,
      c.requires.inside,
      subst (λ (m : SeatView). Splits (BoardAndSeats key) right.id m (lent m.view) (notice (Some m.view))) (sym (ap (λ m. m.0) c.other.invariant.0)) (lends key right.id right.me.0.view),
    )

pub join_seat-requires : goal.join_seat-requires
join_seat-requires c =
    let right = c.seat.inside.right in
    let key = c.args.words.now.key in
    let other = c.split_seat-notice.result in
    let e = c.split_seat-notice.ensures in
    let v = c.other.inside.right.me.0.view in (
      subst (λ (p : SeatState). p.table_id ≡ c.args.words.now.table_id) (sym c.seat.view_is) c.requires.same.0,
      e.3 ∙ subst (λ (p : SeatState). p.table_id ≡ c.args.words.now.table_id) (sym c.other.view_is) c.requires.same.1,
      ap (λ m. m.1) e.4,
      c.requires.inside,
      subst (λ (k : SeatView). Joins (BoardAndSeats key) right.id right.me.0 other.id k (record right.me.0 { borrowed = k.borrowed }) (notice None)) (sym (ap (λ m. m.0) e.4))
          (subst (λ (m : SeatView). Joins (BoardAndSeats key) right.id m other.id (notice (Some v)) (record m { borrowed = Some v }) (notice None)) (sym (ap (λ m. m.0) c.seat.invariant.0))
          (borrows key right.id right.me.0.view other.id v)),
    )

pub load-requires : goal.load-requires
load-requires c =
    let key = c.args.words.now.key in
    let right = c.join_seat.new.seat in
    let seat = right.me.0 in
    let both : seat ≡ record c.seat.inside.right.me.0 { borrowed = c.split_seat-notice.result.me.0.borrowed } = ap (λ m. m.0) c.join_seat.ensures.2 in
    let use' : IsInUse seat =
    subst IsInUse (sym both)
    (subst (λ (m : SeatView). IsInUse (record m { borrowed = c.split_seat-notice.result.me.0.borrowed })) (sym (ap (λ m. m.0) c.seat.invariant.0)) record { hart = refl; kept = refl; free = refl })
    in (
      c.join_seat.ensures.0 ∙ subst (λ (p : SeatState). p.table_id ≡ c.args.words.now.table_id) (sym c.seat.view_is) c.requires.same.0,
      c.requires.inside,
      λ s kept homes at fits.
          let r = seat-steps key right.id seat 0 (λ n. n) (λ _. seat.view) (λ _. seat.view.hart ≡ seat.view.hart) use' (sits key seat.view.hart seat.view 0) s kept at fits in
          (seat, keeps, tt, r.0, (refl, stands-together key right.id seat use' s kept at, borrowed-stands key right.id seat use' s kept at)),
    )

pub split_seat-notice-requires-2 : goal.split_seat-notice-requires-2
split_seat-notice-requires-2 c =
    let key = c.args.words.now.key in
    let right = c.load.new.seat in
    let v = c.other.inside.right.me.0.view in
    let mine = c.seat.inside.right.me.0 in
    let given = c.split_seat-notice.result.me.0 in
    let borrowing : c.load.new.seat.me.0 ≡ record (in_use mine.view) { borrowed = Some v } =
    ap (λ m. m.0) c.load.ensures.2.0
    ∙ (ap (λ m. m.0) c.join_seat.ensures.2
    ∙ (ap (λ (m : SeatView). record m { borrowed = given.borrowed }) (ap (λ m. m.0) c.seat.invariant.0)
    ∙ ap (λ (k : SeatView). record (in_use mine.view) { borrowed = k.borrowed }) (ap (λ m. m.0) c.split_seat-notice.ensures.4))) in (
      c.load.ensures.0 ∙ (c.join_seat.ensures.0 ∙ subst (λ (p : SeatState). p.table_id ≡ c.args.words.now.table_id) (sym c.seat.view_is) c.requires.same.0),
      c.requires.inside,
      subst (λ (m : SeatView). Splits (BoardAndSeats key) right.id m (in_use m.view) (notice m.borrowed)) (sym borrowing) (returns-notice key right.id mine.view v),
    )

pub join_seat-requires-2 : goal.join_seat-requires-2
join_seat-requires-2 c =
    let key = c.args.words.now.key in
    let right = c.split_seat-notice.new.seat in
    let other = c.split_seat-notice-2.result in
    let v = c.other.inside.right.me.0.view in
    let mine = c.seat.inside.right.me.0 in
    let given = c.split_seat-notice.result.me.0 in
    let borrowing : c.load.new.seat.me.0 ≡ record (in_use mine.view) { borrowed = Some v } =
    ap (λ m. m.0) c.load.ensures.2.0
    ∙ (ap (λ m. m.0) c.join_seat.ensures.2
    ∙ (ap (λ (m : SeatView). record m { borrowed = given.borrowed }) (ap (λ m. m.0) c.seat.invariant.0)
    ∙ ap (λ (k : SeatView). record (in_use mine.view) { borrowed = k.borrowed }) (ap (λ m. m.0) c.split_seat-notice.ensures.4)))
    in
    let back : other.me.0 ≡ notice (Some v) = ap (λ m. m.0) c.split_seat-notice-2.ensures.4 ∙ ap (λ (k : SeatView). notice k.borrowed) borrowing in (
      c.split_seat-notice.ensures.0 ∙ subst (λ (p : SeatState). p.table_id ≡ c.args.words.now.table_id) (sym c.other.view_is) c.requires.same.1,
      c.split_seat-notice-2.ensures.3
          ∙ (c.load.ensures.0 ∙ (c.join_seat.ensures.0 ∙ subst (λ (p : SeatState). p.table_id ≡ c.args.words.now.table_id) (sym c.seat.view_is) c.requires.same.0)),
      ap (λ m. m.1) c.split_seat-notice-2.ensures.4,
      c.requires.inside,
      subst (λ (k : SeatView). Joins (BoardAndSeats key) right.id right.me.0 other.id k (in_use right.me.0.view) (notice None)) (sym back)
          (subst (λ (m : SeatView). Joins (BoardAndSeats key) right.id m other.id (notice (Some v)) (in_use m.view) (notice None)) (sym (ap (λ m. m.0) c.split_seat-notice.ensures.2))
          (resumes key right.id v other.id)),
    )
