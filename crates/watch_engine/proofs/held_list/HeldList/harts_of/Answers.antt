use Rattle.std.proofs.Common.{◌≡◌, ◌-◌, ◌∙◌, ℕ, List, ap, arith, true, get_or, take}
use Rattle.std.specs.Prelude.{◌||◌}
use Rattle.watch_engine.specs.declared.keys.By.TheVariants.{Page}
use Rattle.watch_engine.specs.declared.held.Held.{Held}
use Rattle.watch_engine.specs.Chains.{last_place}
use Rattle.watch_engine.specs.Keys.{key_of}
use Rattle.watch_engine.specs.Places.{items_of}
use Rattle.watch_engine.proofs.PageHarts.{all_harts, gathered, gathers_first, gathers_on, on}
use Rattle.watch_engine.proofs.Walks.{smaller}
use Rattle.watch_engine.proofs.held_list.HeldList.harts_of.Goals as goal

pub loop-at-init : goal.loop-at-init
loop-at-init c =
    gathers_first c.args.page.now c.args.self.now.places.items c.in-Some.at _
    (c.newest.ensures.found c.in-Some.at c.in-Some.is ∙ (λ j. last_place (c.page_key.ensures j) ((c.by-pages.ensures ∙ c.args.self.now.indexed Page) j)))

pub loop-at-smaller : goal.loop-at-smaller
loop-at-smaller c =
    let at : ℕ = c.loop-at.at in
    smaller c.args.self.now.places.items (key_of Page) at c.in-Some-before.older c.loop-at-test.true c.loop-at.invariant.walk.within
    (c.before-in-loop-at.ensures.found c.in-Some-before.older c.in-Some-before.is ∙ ap (λ (ks : List ℕ). last_place (get_or ks (at - 1) 0) (take (at - 1) ks)) (c.by-pages.ensures ∙ c.args.self.now.indexed Page))

pub loop-at-preserved : goal.loop-at-preserved
loop-at-preserved c =
    let at : ℕ = c.loop-at.at in
    let items : List Held = c.args.self.now.places.items in
    let d : Held = c.index-places-at.result in
    let read : d ≡ get_or items (at - 1) d = c.index-places-at.is ∙ ap (λ (l : List Held). get_or l (at - 1) d) c.as_slice-places.ensures.value in
    gathers_on c.args.page.now items at d c.loop-at.harts c.add_hart_of.new.harts c.loop-at.invariant c.loop-at-test.true
    (λ hart. c.add_hart_of.ensures hart ∙ ap (λ (s : Held). on c.args.page.now hart s || get_or c.loop-at.harts hart true) read) c.in-Some-before.older
    (c.before-in-loop-at.ensures.found c.in-Some-before.older c.in-Some-before.is ∙ ap (λ (ks : List ℕ). last_place (get_or ks (at - 1) 0) (take (at - 1) ks)) (c.by-pages.ensures ∙ c.args.self.now.indexed Page))

pub returns : goal.returns
returns c = gathered c.args.page.now c.args.self.now.places.items c.loop-at.at c.loop-at.harts c.loop-at.invariant (omega (arith, c.loop-at-test.false))

pub returns-in_default : goal.returns-in_default
returns-in_default c = all_harts c.args.page.now (items_of c.args.self.now.places.items) 256

pub returns-in_default-before : goal.returns-in_default-before
returns-in_default-before c = all_harts c.args.page.now (items_of c.args.self.now.places.items) 256
