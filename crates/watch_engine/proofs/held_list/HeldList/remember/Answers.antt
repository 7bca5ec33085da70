use Rattle.std.specs.Prelude.{OnOk}
use Rattle.std.proofs.Common.{rules, ℕ, refl, ◌≡◌, ◌∙◌, length, sym, ap, subst, arith, List, get_or, set, vec_len}
use Rattle.watch_engine.specs.declared.held.Held.{Held}
use Rattle.watch_tables.specs.Ways.{later}
use Rattle.watch_engine.specs.Held.{remembered}
use Rattle.watch_engine.specs.declared.keys.By.{By}
use Rattle.watch_engine.specs.declared.keys.By.TheVariants.{Frame, Page, Root}
use Rattle.watch_engine.specs.Keys.{key_of}
use Rattle.watch_engine.specs.Places.{items_of}
use Rattle.watch_engine.specs.State.{is_gone}
use Rattle.watch_engine.proofs.Placed.{none_placed, not_placed, placed}
use Rattle.watch_engine.proofs.Emptying.{one_stays}
use Rattle.watch_engine.proofs.EmptyPlaces.{gone_same}
use Rattle.watch_engine.proofs.held_list.HeldList.remember.Goals as goal

pub returns-in_default-clause-ok : goal.returns-in_default-clause-ok
returns-in_default-clause-ok c =
    let none = none_placed c.place_of.result c.in_default.not-Some in
    let places : List Held = c.args.self.now.places.items in
    subst (λ (held : List Held). OnOk c.push.result (items_of c.push.new.self.places.items ≡ held)) (sym (not_placed c.args.live.now 0 places (sym c.place_of.ensures ∙ none))) c.push.ensures.ok

-- what was live later has the same keys
touch_keeps : (by : By) (last : ℕ) (i : Held) → key_of by (record i { last_live = later i.last_live last }) ≡ key_of by i
touch_keeps Page last i = refl
touch_keeps Frame last i = refl
touch_keeps Root last i = refl

pub index_mut-requires : goal.index_mut-requires
index_mut-requires c =
    let p = placed c.args.live.now 0 c.in-Some.place c.args.self.now.places.items (sym c.place_of.ensures ∙ c.in-Some.is) in
    let e : length c.args.self.now.places.items ≡ vec_len c.args.self.now.places = search rules in
    omega (arith, p.from, p.within, e)

pub returns-clause-ok : goal.returns-clause-ok
returns-clause-ok c =
    let places : List Held = c.args.self.now.places.items in
    let p = placed c.args.live.now 0 c.in-Some.place places (sym c.place_of.ensures ∙ c.in-Some.is) in
    let at : c.in-Some.place ≡ p.at = omega (arith, p.from) in
    let s : Held = c.index_mut.result.now in
    rw c.touch.ensures (subst (λ n. s ≡ get_or places n s → items_of (set places n (record s { last_live = later s.last_live c.args.live.now.last_live })) ≡ remembered c.args.live.now (items_of places)) (sym at) (p.is s) c.index_mut.ensures.value)

pub invariant_of-self : goal.invariant_of-self
invariant_of-self c =
    let old : Held = c.index_mut.result.now in
    let new : Held = c.touch.new.self in
    let places : List Held = c.args.self.now.places.items in
    let read = c.index_mut.ensures.value in
    record {
      indexed = λ by. one_stays by _ places c.in-Some.place old new (c.args.self.now.indexed by) (ap (key_of by) c.touch.ensures ∙ (touch_keeps by c.args.live.now.last_live old ∙ ap (key_of by) read));
      counted = omega (arith, gone_same places c.in-Some.place old new read (ap (λ (i : Held). is_gone i.state) c.touch.ensures), c.args.self.now.counted);
    }
