use Rattle.std.proofs.Common.{◌≡◌, ◌-◌, ◌∙◌, ℕ, List, ap, get_or, suc, sym, take, true, arith}
use Rattle.watch_engine.specs.declared.held.Held.{Held}
use Rattle.watch_engine.specs.Places.{items_of}
use Rattle.watch_engine.specs.State.{is_gone}
use Rattle.watch_engine.proofs.Emptying.{items_before}
use Rattle.watch_engine.proofs.places.end_of.Goals as goal

pub loop-end-preserved : goal.loop-end-preserved
loop-end-preserved c =
    let places : List Held = c.args.places.now in
    let at : ℕ = c.loop-end.end in
    let d : Held = c.index-places-end.result in
    let back : suc (at - 1) ≡ at = omega arith in
    let gone : is_gone (get_or places (at - 1) d).state ≡ true = sym c.is_gone.ensures ∙ c.if-is_gone.true in (
      sym (items_before places (at - 1) d (omega arith) gone) ∙ (ap (λ (n : ℕ). items_of (take n places)) back ∙ c.loop-end.invariant.0),
      omega arith,
    )
