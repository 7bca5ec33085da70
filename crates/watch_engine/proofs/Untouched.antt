-- What a store makes of what harts may hold.
use Rattle.std.proofs.Common.{◌≡◌, ℕ, Bool, true, false, List, [], ◌∷◌, map, ap, sym, ◌∙◌, refl, Option, None}
use Rattle.std.specs.Prelude.{◌&&◌, ◌||◌, Some, cond, filter, is_some, not}
use Rattle.std.specs.List.{list_any}
use Rattle.std.proofs.lemmas.Bool.{true≢false}
use Rattle.pte.specs.declared.scheme.Scheme.{Scheme}
use Rattle.watch.specs.Trace.{index_of}
use Rattle.watch_tables.specs.declared.way.Way.{Way}
use Rattle.watch_engine.specs.declared.held.Held.{Held}
use Rattle.watch_engine.specs.declared.state.State.{State}
use Rattle.watch_engine.specs.declared.state.State.TheVariants.{Current, Gone, Stale}
use Rattle.watch_engine.specs.Concerns.{concerns, store_on}
use Rattle.watch_engine.specs.Effects.{AreThere, all_changed, or_same}
use Rattle.watch_engine.specs.Held.{translation_of, with_state}
use Rattle.watch_engine.specs.State.{is_gone, recheck_of, rechecked}
use Rattle.watch_engine.specs.Touched.{all_settled, is_filled_again, is_kept_after, is_touched, settled, store_change}
use Rattle.watch_engine.proofs.Emptying.{items_turned}
use Rattle.watch_engine.proofs.Lists.{each_of}
use Rattle.watch_engine.proofs.Rechecks.{touched_stays}
use Rattle.watch_engine.proofs.Walks.{and_no}
use Rattle.watch_engine.specs.View.{View, is_current_in, is_live_for}

-- what a store makes of a state
abbrev to_state : (touched live current : Bool) (n : ℕ) → State → Option State
to_state touched live current n s = cond touched (cond live (Some Gone) (recheck_of current n s)) None

-- it is made once
pub made_once : (touched live current : Bool) (n : ℕ) (s : State) → (not (is_gone (or_same (to_state touched live current n s) s)) && is_some (to_state touched live current n (or_same (to_state touched live current n s) s))) ≡ false
made_once false live current n s = and_no (not (is_gone s))
made_once true true current n s = refl
made_once true false true n Current = refl
made_once true false false n Current = refl
made_once true false true n (Stale given since) = refl
made_once true false false n (Stale given since) = refl
made_once true false current n Gone = refl

turned_state : (touched live current : Bool) (n : ℕ) (s : State) → cond (is_gone s) s (or_same (to_state touched live current n s) s) ≡ cond (touched && live) Gone (cond touched (rechecked current n s) s)
turned_state false live current n Current = refl
turned_state false live current n (Stale given since) = refl
turned_state false live current n Gone = refl
turned_state true true current n Current = refl
turned_state true true current n (Stale given since) = refl
turned_state true true current n Gone = refl
turned_state true false true n Current = refl
turned_state true false false n Current = refl
turned_state true false true n (Stale given since) = refl
turned_state true false false n (Stale given since) = refl
turned_state true false current n Gone = refl

-- each item that is changed lies below the word on one of the ways
on_a_way : (scheme : Scheme) (roots : List ℕ) (address : ℕ) (i : Held) (ways : List Way) → list_any (λ c. concerns c i) (map (store_on scheme roots address) ways) ≡ is_touched scheme roots (index_of address) ways (translation_of i)
on_a_way scheme roots address i [] = refl
on_a_way scheme roots address i (way ∷ ways) = ap (λ (b : Bool). concerns (store_on scheme roots address way) i || b) (on_a_way scheme roots address i ways)

if_touched : (touched : Bool) (to : Option State) → is_some (cond touched to None) ≡ true → touched ≡ true
if_touched true to is = refl
if_touched false to is = absurd (true≢false (sym is))

pub told : (v : View) (address : ℕ) (ways : List Way) (i : Held) → is_some (store_change v (index_of address) ways i) ≡ true → list_any (λ c. concerns c i) (map (store_on v.scheme v.roots address) ways) ≡ true
told v address ways i is = on_a_way v.scheme v.roots address i ways ∙ if_touched (is_touched v.scheme v.roots (index_of address) ways (translation_of i)) _ is

pub store_left : (v : View) (index : ℕ) (ways : List Way) (held : List Held) → AreThere held → all_changed (store_change v index ways) held ≡ all_settled v index ways held
store_left v index ways held there =
    let touch : Held → Bool = λ i. is_touched v.scheme v.roots index ways (translation_of i) in
    let current : Held → Bool = λ i. is_current_in v (translation_of i) in
    let live : Held → Bool = λ i. is_live_for v i.hart (translation_of i) in
    let after : Held → State = λ i. (settled v index ways i).state in
    (λ j. filter (λ i. not (is_gone i.state)) (map (λ i. with_state (turned_state (touch i) (live i) (current i) v.count i.state j) i) held))
    ∙ (items_turned after (is_filled_again v index ways) held (each_of (λ i. is_gone (after i) ≡ is_gone i.state) (λ i. touched_stays (touch i) (current i) v.count i.state) held)
    ∙ ap (λ (is : List Held). map (λ i. with_state (after i) i) (filter (is_kept_after v index ways) is)) there)
