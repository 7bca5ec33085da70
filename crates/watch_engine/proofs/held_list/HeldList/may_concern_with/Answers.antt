use Rattle.std.proofs.Common.{arith, ◌≡◌, ◌-◌, ◌∙◌, ℕ, Bool, List, ap, drop, get_or, sym, take}
use Rattle.std.specs.List.{list_any}
use Rattle.watch_engine.specs.declared.held.Held.{Held}
use Rattle.watch_engine.specs.Chains.{last_place}
use Rattle.watch_engine.specs.Causes.{applies}
use Rattle.watch_engine.specs.Keys.{key_of}
use Rattle.watch_engine.proofs.Walks.{keyed, next, smaller, start}
use Rattle.watch_engine.proofs.held_list.HeldList.may_concern_with.Goals as goal

pub loop-at-init : goal.loop-at-init
loop-at-init c =
    start (key_of c.args.by) c.args.key (applies c.args.cause.now) c.args.self.now.places.items c.in-Some.at
    (c.newest.ensures.found c.in-Some.at c.in-Some.is ∙ ap (last_place c.args.key) (c.by-chains.ensures ∙ c.args.self.now.indexed c.args.by))

pub loop-at-smaller : goal.loop-at-smaller
loop-at-smaller c =
    let at : ℕ = c.loop-at.at in
    smaller c.args.self.now.places.items (key_of c.args.by) at c.in-Some-before.older c.loop-at-test.true c.loop-at.invariant.within
    (c.before-in-loop-at.ensures.found c.in-Some-before.older c.in-Some-before.is ∙ ap (λ (ks : List ℕ). last_place (get_or ks (at - 1) 0) (take (at - 1) ks)) (c.by-chains.ensures ∙ c.args.self.now.indexed c.args.by))

pub loop-at-preserved : goal.loop-at-preserved
loop-at-preserved c =
    let at : ℕ = c.loop-at.at in
    let items : List Held = c.args.self.now.places.items in
    let test : Held → Bool = applies c.args.cause.now in
    let d : Held = c.index-places-at.result in
    let read : d ≡ get_or items (at - 1) d = c.index-places-at.is ∙ ap (λ (l : List Held). get_or l (at - 1) d) c.as_slice-places.ensures.value in
    next (key_of c.args.by) c.args.key test items at d c.loop-at.invariant c.loop-at-test.true (ap test (sym read) ∙ (sym c.is_of_cause.ensures ∙ c.if-is_of_cause.false)) c.in-Some-before.older
    (c.before-in-loop-at.ensures.found c.in-Some-before.older c.in-Some-before.is ∙ ap (λ (ks : List ℕ). last_place (get_or ks (at - 1) 0) (take (at - 1) ks)) (c.by-chains.ensures ∙ c.args.self.now.indexed c.args.by))

pub returns : goal.returns
returns c = λ no.
    let none : c.loop-at.at ≡ 0 = omega (arith, c.loop-at-test.false) in
    ap (λ (n : ℕ). list_any (keyed (key_of c.args.by) c.args.key (applies c.args.cause.now)) (drop n c.args.self.now.places.items)) (sym none) ∙ c.loop-at.invariant.none
