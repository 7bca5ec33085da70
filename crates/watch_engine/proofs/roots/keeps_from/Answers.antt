use Rattle.std.proofs.Common.{◌≡◌, ◌∙◌, ◌<◌, sym, ℕ, List, length, slice_index_or, false, rules, arith}
use Rattle.watch.specs.Trace.{is_among}
use Rattle.watch_engine.proofs.RootOrder.{early_stay, late_stay}
use Rattle.watch_engine.proofs.roots.keeps_from.Goals as goal

pub loop-place-init : goal.loop-place-init
loop-place-init c = (early_stay c.args.frames c.args.satps.now c.args.ppns.now c.args.place c.requires.place, c.requires.place.1)

pub returns-then-not-is_among : goal.returns-then-not-is_among
returns-then-not-is_among c =
    let roots : List ℕ = c.args.ppns.now in
    let place : ℕ = c.loop-place.place in
    let here : place < length roots = search rules in
    let none : is_among c.args.frames (slice_index_or roots place 0) ≡ false = search rules in
    sym (late_stay c.args.frames c.args.satps.now roots place 0 c.requires.order here (c.loop-place.invariant.1 place 0 (omega arith) here) none) ∙ c.loop-place.invariant.0
