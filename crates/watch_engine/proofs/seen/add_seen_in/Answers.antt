use Rattle.std.proofs.Common.{sym, subst, List, take, [], ℕ}
use Rattle.std.proofs.lemmas.List.{take_all, take_more}
use Rattle.watch_engine.proofs.Gathering.{SeenIn, none_seen, one_more}
use Rattle.watch_engine.specs.View.{view_of}
use Rattle.watch_engine.proofs.seen.add_seen_in.Goals as goal

pub loop-address-init : goal.loop-address-init
loop-address-init g c =
    subst (λ seen. SeenIn (view_of c.args.view.now) [] seen) (sym c.requires.none)
    (none_seen (view_of c.args.view.now))

pub loop-address-preserved : goal.loop-address-preserved
loop-address-preserved g c =
    let at : ℕ = c.loop-address.address-index in
    let addresses : List ℕ = c.args.addresses.now in
    let is = take_more addresses at 0 c.loop-address-test.true in
    subst (λ many. SeenIn (view_of c.args.view.now) many c.add_seen_if_any.new.seen.items) (sym is)
    (one_more (view_of c.args.view.now) (take at addresses) _ c.loop-address.seen.items c.add_seen_if_any.new.seen.items c.loop-address.invariant c.in_ok-add_seen_if_any.ensures)

pub returns : goal.returns
returns g c =
    subst (λ many. SeenIn (view_of c.args.view.now) many c.loop-address.seen.items)
    (take_all c.loop-address.address-index c.args.addresses.now c.loop-address-test.false) c.loop-address.invariant
