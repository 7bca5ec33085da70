use Rattle.std.proofs.Common.{ap, sym, subst, ◌≡◌, ◌∙◌, []}
use mathlib.Core.Option.{some}
use Rattle.atomic_table.specs.Table.{Me, keeps}
use Rattle.views.specs.declared.view.SeatView.{SeatView}
use Rattle.views.specs.Board.{Steps}
use Rattle.views.specs.Gathered.{in_use}
use Rattle.views.specs.OnBoard.{IsWithin, SeatState}
use Rattle.views.proofs.Gathering.{in_use-may, seat-steps}
use Rattle.views.proofs.seat.store.Goals as goal

pub store-requires : goal.store-requires
store-requires g c =
    let steps = subst (λ (p : SeatState). Steps c.args.words.now.key p.id p.view c.args.word (λ _. c.args.new) (λ _. g.T.Turn.after c.args.new) (λ _. g.T.Turn.tells c.args.new)) (sym c.seat.view_is) c.requires.steps in
    let right = c.seat.inside.right in
    let used = c.seat.invariant.0 in (
      subst (λ (p : SeatState). p.table_id ≡ c.args.words.now.table_id) (sym c.seat.view_is) c.requires.same,
      c.requires.inside,
      λ s kept homes at lt.
          let r = seat-steps c.args.words.now.key right.id (in_use right.me.0.view) c.args.word (λ _. c.args.new) (λ _. g.T.Turn.after c.args.new) (λ _. g.T.Turn.tells c.args.new) (in_use-may right.me.0.view) steps s kept (at ∙ ap (λ (m : Me _ SeatView). some m.0) used) lt in
          let w = in_use (g.T.Turn.after c.args.new) in
          (w, keeps, tt, r.0, (ap (λ l. (w, l)) (ap (λ m. m.1) used), r.1, r.2, r.3)),
    )

pub invariant_of-seat : goal.invariant_of-seat
invariant_of-seat g c =
    let after = c.store.ensures.2.0 in
    let within = subst (λ (p : SeatState). IsWithin p.tlb.entries p.view.entries → IsWithin p.tlb.entries (g.T.Turn.after c.args.new).entries) (sym c.seat.view_is) c.requires.within in (
      after ∙ ap (λ (m : Me _ SeatView). (in_use m.0.view, [])) (sym after),
      subst (λ (m : SeatView). IsWithin c.seat.inside.tlb.entries m.view.entries) (sym (ap (λ m. m.0) after)) (within c.seat.invariant.1),
    )
