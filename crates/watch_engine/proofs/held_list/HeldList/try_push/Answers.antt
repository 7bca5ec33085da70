use Rattle.std.proofs.Common.{◌≡◌, ◌∙◌, ◌++◌, ◌∷◌, [], List, ap, sym, true, arith, rules}
use Rattle.std.specs.Prelude.{Err, Ok, OnOk}
use Rattle.std.specs.Result.{is_ok}
use Rattle.std.specs.declared.result.Result.{Result}
use Rattle.std.proofs.lemmas.Bool.{true≢false}
use Rattle.watch_engine.specs.declared.held.Held.{Held}
use Rattle.watch_engine.specs.Places.{count_gone, is_there, items_of}
use Rattle.std.proofs.lemmas.List.Elements.{filter-append}
use Rattle.watch_engine.proofs.Emptying.{keys_append}
use Rattle.watch_engine.proofs.EmptyPlaces.{gone_append, gone_in}
use Rattle.watch_engine.proofs.held_list.HeldList.try_push.Goals as goal

ok_then : {T E : Type 0} (r : Result T E) (P : Type 0) → is_ok r ≡ true → OnOk r P → P
ok_then (Ok x) P is p = p
ok_then (Err e) P is p = absurd (true≢false (sym is))

pub returns-then-is_ok-2-clause-ok : goal.returns-then-is_ok-2-clause-ok
returns-then-is_ok-2-clause-ok c =
    let places : List Held = c.args.self.now.places.items in
    let more : c.push.new.self.items ≡ places ++ c.from_live-item.result ∷ [] = search rules in
    ap items_of more ∙ (filter-append is_there places (c.from_live-item.result ∷ []) ∙ ap (λ (i : Held). items_of places ++ items_of (i ∷ [])) c.from_live-item.ensures)

pub invariant_of-self-clause-counted : goal.invariant_of-self-clause-counted
invariant_of-self-clause-counted c =
    let places : List Held = c.args.self.now.places.items in
    let more : c.push.new.self.items ≡ places ++ c.from_live-item.result ∷ [] = search rules in
    let count : count_gone c.push.new.self.items ≡ count_gone (places ++ c.from_live-item.result ∷ []) = ap (λ (l : List Held). count_gone l) more in
    let there : gone_in c.from_live-item.result ≡ 0 = ap gone_in c.from_live-item.ensures in
    let one = gone_append places c.from_live-item.result in
    omega (arith, c.args.self.now.counted)

pub invariant_of-self-clause-indexed : goal.invariant_of-self-clause-indexed
invariant_of-self-clause-indexed c = λ by.
    keys_append by _ _ c.args.self.now.places.items _ c.from_live-item.result
    (ok_then c.push-keyed.result _ (sym c.is_ok.ensures.value ∙ c.if-is_ok.true) c.push-keyed.ensures.ok by) (c.args.self.now.indexed by) (search rules)
