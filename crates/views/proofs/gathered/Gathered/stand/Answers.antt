use Rattle.std.proofs.Common.{◌≡◌, ap, sym, subst, refl}
use Rattle.atomic_table.specs.Table.{keeps}
use Rattle.views.specs.declared.view.SeatView.{SeatView}
use Rattle.views.specs.Gathered.{GatheredState, StandTogether, all_views}
use Rattle.views.proofs.Gathering.{borrowed-stands, seat-steps, stands-together}
use Rattle.views.proofs.Pairs.{sits}
use Rattle.views.proofs.gathered.Gathered.stand.Goals as goal

pub load-requires : goal.load-requires
load-requires c =
    let right = c.self.inside.right in
    let key = c.args.words.now.key in
    let seat = right.me.0 in
    let may = c.self.invariant.1 in (
      subst (λ (p : GatheredState). p.table_id ≡ c.args.words.now.table_id) (sym c.self.view_is) c.requires.same,
      c.requires.inside,
      λ s kept homes at fits.
          let r = seat-steps key right.id seat 0 (λ n. n) (λ _. seat.view) (λ _. seat.view.hart ≡ seat.view.hart) may (sits key seat.view.hart seat.view 0) s kept at fits in
          (seat, keeps, tt, r.0, (refl, stands-together key right.id seat may s kept at, borrowed-stands key right.id seat may s kept at)),
    )

pub returns-clause-together : goal.returns-clause-together
returns-clause-together c =
    let e = c.load.ensures.2 in
    subst (λ (m : SeatView). StandTogether (all_views m)) (sym (ap (λ m. m.0) e.0)) e.1
