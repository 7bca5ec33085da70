use Rattle.std.proofs.Common.{◌≡◌, ◌+◌, ◌-◌, ◌∙◌, ℕ, Bool, List, Option, Some, ap, get_or, length, map, subst, sym, true, arith}
use Rattle.std.specs.Prelude.{if◌then◌else◌}
use Rattle.std.proofs.lemmas.Bool.{and_parts}
use Rattle.std.proofs.lemmas.List.{length-map}
use Rattle.watch.specs.Holding.{Translation}
use Rattle.watch_engine.specs.declared.held.Held.{Held}
use Rattle.watch_engine.specs.declared.keys.By.TheVariants.{Page}
use Rattle.watch_engine.specs.Chains.{IsFirst, IsNext}
use Rattle.watch_engine.specs.Held.{is_of, last_translation}
use Rattle.watch_engine.specs.Keys.{key_of, page_key}
use Rattle.watch_engine.specs.Places.{has, is_there}
use Rattle.watch_engine.proofs.Lists.{of_same}
use Rattle.watch_engine.proofs.Walks.{Looks, looks_done, looks_first, looks_here, looks_on}
use Rattle.watch_engine.proofs.held_list.HeldList.place_of.Goals.{then-is_of_live-2, else-is_of_live-2}
use Rattle.watch_engine.proofs.held_list.HeldList.place_of.Goals as goal

same_page : (hart : ℕ) (x : Translation) (i : Held) → has (is_of hart x) i ≡ true → key_of Page i ≡ page_key x.entry.page
same_page hart x i is = ap (λ (y : Translation). page_key y.entry.page) (of_same hart x i (and_parts (is_there i) (is_of hart x i) is).1).translation

pub loop-front-init : goal.loop-front-init
loop-front-init c =
    let hart : ℕ = c.args.live.now.hart in
    let x : Translation = last_translation c.args.live.now in
    let buckets : ℕ = length c.by-pages.result.now.heads.items in
    let key : c.key_of-key.result ≡ page_key x.entry.page = c.key_of-key.ensures ∙ ap (key_of Page) c.from_live.ensures in
    looks_first buckets (key_of Page) (page_key x.entry.page) (has (is_of hart x)) (same_page hart x) c.args.self.now.places.items c.head-at.result
    (subst (λ (k : ℕ). IsFirst buckets (map (key_of Page) c.args.self.now.places.items) k c.head-at.result) key
    (subst (λ (keys : List ℕ). IsFirst buckets keys c.key_of-key.result c.head-at.result) (c.by-pages.ensures ∙ c.args.self.now.indexed Page) c.head-at.ensures))

pub bounds-places-front : goal.bounds-places-front
bounds-places-front c =
    let size : length c.as_slice-places.result.now ≡ length c.args.self.now.places.items = ap length c.as_slice-places.ensures.value in
    omega (arith, c.loop-front.invariant.within)

pub returns-then-is_of_live : goal.returns-then-is_of_live
returns-then-is_of_live c =
    let hart : ℕ = c.args.live.now.hart in
    let x : Translation = last_translation c.args.live.now in
    let items : List Held = c.args.self.now.places.items in
    let d : Held = c.index-places-front.result in
    let read : d ≡ get_or items c.loop-front.front d = c.index-places-front.is ∙ ap (λ (l : List Held). get_or l c.loop-front.front d) c.as_slice-places.ensures.value in
    sym (looks_here _ (key_of Page) (page_key x.entry.page) (has (is_of hart x)) items c.loop-front.at c.loop-front.front d c.loop-front.found c.loop-front.invariant c.loop-front-test.true
    (ap (has (is_of hart x)) (sym read) ∙ sym c.is_of_live.ensures ∙ c.if-is_of_live.true))

pub bounds-places-at : goal.bounds-places-at
bounds-places-at c =
    let size : length c.as_slice-places.result.now ≡ length c.args.self.now.places.items = ap length c.as_slice-places.ensures.value in
    omega (arith, c.loop-front.invariant.within)

pub older-at-requires-clause-within : goal.older-at-requires-clause-within
older-at-requires-clause-within c =
    let size : length c.by-pages.result.now.keys.items ≡ length c.args.self.now.places.items =
    ap length (c.by-pages.ensures ∙ c.args.self.now.indexed Page) ∙ length-map c.args.self.now.places.items (key_of Page) in
    omega (arith, c.loop-front.invariant.within)

pub loop-front-smaller : goal.loop-front-smaller
loop-front-smaller c = c.older-at.ensures.smaller

pub loop-front-preserved : goal.loop-front-preserved
loop-front-preserved c =
    let hart : ℕ = c.args.live.now.hart in
    let x : Translation = last_translation c.args.live.now in
    let buckets : ℕ = length c.by-pages.result.now.heads.items in
    let at : ℕ = c.loop-front.at in
    let front : ℕ = c.loop-front.front in
    let items : List Held = c.args.self.now.places.items in
    let d : Held = c.index-places-at.result in
    let e : Held = c.index-places-front.result in
    let read : d ≡ get_or items (at - 1) d = c.index-places-at.is ∙ ap (λ (l : List Held). get_or l (at - 1) d) c.as_slice-places.ensures.value in
    let read_front : e ≡ get_or items front e = c.index-places-front.is ∙ ap (λ (l : List Held). get_or l front e) c.as_slice-places.ensures.value in
    let tested : has (is_of hart x) (get_or items (at - 1) d) ≡ c.is_of_live-in-loop-front.result = ap (has (is_of hart x)) (sym read) ∙ sym c.is_of_live-in-loop-front.ensures in
    let on = looks_on buckets (key_of Page) (page_key x.entry.page) (has (is_of hart x)) (same_page hart x) items at front d e c.loop-front.found c.loop-front.invariant c.loop-front-test.true
    (ap (has (is_of hart x)) (sym read_front) ∙ sym c.is_of_live.ensures ∙ c.if-is_of_live.false) c.older-at.result
    (subst (λ (keys : List ℕ). IsNext buckets keys at c.older-at.result) (c.by-pages.ensures ∙ c.args.self.now.indexed Page) c.older-at.ensures) in
    let now : (if has (is_of hart x) (get_or items (at - 1) d) then Some (at - 1) else c.loop-front.found) ≡ c.if-is_of_live-2.found = elim c.if-is_of_live-2.branch [
      | then-is_of_live-2 w ↦ ap (λ (b : Bool). if b then Some (at - 1) else c.loop-front.found) (tested ∙ w.if-is_of_live-2.true) ∙ sym w.found-is
      | else-is_of_live-2 w ↦ ap (λ (b : Bool). if b then Some (at - 1) else c.loop-front.found) (tested ∙ w.if-is_of_live-2.false) ∙ sym w.found-is
    ] in
    subst (λ (o : Option ℕ). Looks buckets (key_of Page) (page_key x.entry.page) (has (is_of hart x)) items c.older-at.result (front + 1) o) now on

pub returns : goal.returns
returns c =
    let hart : ℕ = c.args.live.now.hart in
    let x : Translation = last_translation c.args.live.now in
    sym (looks_done _ (key_of Page) (page_key x.entry.page) (has (is_of hart x)) c.args.self.now.places.items c.loop-front.at c.loop-front.front c.loop-front.found c.loop-front.invariant (omega arith))
