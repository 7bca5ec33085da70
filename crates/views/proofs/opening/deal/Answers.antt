use Rattle.std.proofs.Common.{◌≡◌, ◌<◌, ◌∙◌, ap, sym, subst, arith, length}
use Rattle.spaces.specs.Layout.{layout_of}
use Rattle.views.specs.Rule.{dealer, dealt, starting, Local}
use Rattle.views.proofs.Deals.{local-starting}
use Rattle.views.proofs.Pairs.{deals-seat}
use Rattle.views.proofs.opening.deal.Goals as goal

pub split-seat-requires-clause-inside : goal.split-seat-requires-clause-inside
split-seat-requires-clause-inside c = let fit = c.requires.fit in omega (arith, fit.words_are, fit.limits.some_space)

pub split-seat-requires-clause-splits : goal.split-seat-requires-clause-splits
split-seat-requires-clause-splits c =
    let fit = c.requires.fit in
    let limits = fit.limits in
    let room : c.args.first.now.view.next < length (layout_of c.args.config.now).spares = let n = c.requires.next.1 in omega (arith, limits.spares) in
    λ s b at. rw fit.key_is (deals-seat c.args.config.now c.args.first.now.id c.args.first.now.view c.requires.next.0 room s (rw fit.key_is at b) at)

pub returns-clause-fit : goal.returns-clause-fit
returns-clause-fit c =
    let fit = c.requires.fit in
    let limits = fit.limits in
    let e = c.split-seat.ensures in
    let room : c.args.first.now.view.next < length (layout_of c.args.config.now).spares = let n = c.requires.next.1 in omega (arith, limits.spares) in
    let first : c.sit.new.seat.view ≡ dealer c.args.first.now.view = c.sit.ensures.view ∙ ap (λ p. p.view) e.first in
    let second : c.sit-2.new.seat.view ≡ dealt c.args.first.now.view = c.sit-2.ensures.view ∙ ap (λ p. p.view) e.next in
    let kept : Local (layout_of c.args.config.now) (dealer c.args.first.now.view) =
    record { hart = fit.local.hart; memory = fit.local.memory; alone = fit.local.alone; lowest = fit.local.lowest }
    in
    let begun : Local (layout_of c.args.config.now) (dealt c.args.first.now.view) =
    subst (λ k. Local (layout_of c.args.config.now) (starting k c.args.first.now.view.next 0)) (sym fit.config) (local-starting c.args.config.now limits c.args.first.now.view.next 0 room)
    in (
      record {
        limits = limits;
        key_is = fit.key_is;
        words_are = fit.words_are;
        same = c.sit.ensures.same ∙ (ap (λ p. p.table_id) e.first ∙ fit.same);
        config = ap (λ v. v.config) first ∙ fit.config;
        local = subst (Local (layout_of c.args.config.now)) (sym first) kept;
        number = c.sit.ensures.number;
        on_board = c.sit.ensures.on_board;
      },
      record {
        limits = limits;
        key_is = fit.key_is;
        words_are = fit.words_are;
        same = c.sit-2.ensures.same ∙ (ap (λ p. p.table_id) e.next ∙ fit.same);
        config = ap (λ v. v.config) second ∙ fit.config;
        local = subst (Local (layout_of c.args.config.now)) (sym second) begun;
        number = c.sit-2.ensures.number;
        on_board = c.sit-2.ensures.on_board;
      },
    )
