-- Places whose items go: what is left, and where chains still lead.
use Rattle.std.proofs.Common.{◌≡◌, ℕ, Bool, true, false, suc, ◌-◌, ◌<◌, List, [], ◌∷◌, ◌++◌, length, map, take, get_or, set, ap, sym, ◌∙◌, refl, arith}
use Rattle.std.specs.Prelude.{◌&&◌, ◌||◌, cond, filter, not}
use Rattle.std.specs.List.{list_any}
use Rattle.std.proofs.Math.Seq.{map-set_same, take-suc}
use Rattle.std.proofs.lemmas.List.{append-nil, drop-set-lt, get_or-set_same, length-set, map-append, take-map, take-take}
use Rattle.watch_engine.specs.declared.held.Held.{Held}
use Rattle.watch_engine.specs.declared.keys.By.{By}
use Rattle.watch_engine.specs.Chains.{last_place}
use Rattle.watch_engine.specs.Keys.{key_of}
use Rattle.watch_engine.specs.Places.{has, is_there, items_of}
use Rattle.watch_engine.specs.State.{is_gone}
use Rattle.watch_engine.specs.declared.state.State.{State}
use Rattle.watch_engine.specs.declared.state.State.TheVariants.{Gone}
use Rattle.watch_engine.specs.declared.keys.By.TheVariants.{Frame, Page, Root}
use Rattle.watch_engine.specs.Held.{Each, with_state}
use Rattle.std.proofs.lemmas.List.Elements.{filter-append}
use Rattle.watch_engine.proofs.Lists.{each_of, filter_same, map_same}
use Rattle.watch_engine.proofs.Walks.{IsAt, keyed, next}

-- its state is changed, or it goes
abbrev pub turned : (Held → State) → (Held → Bool) → Held → Held
turned after goes i = with_state (cond (goes i) Gone (after i)) i

-- the items of places of which some are changed and others go
items_first : (after : Held → State) (goes : Held → Bool) (i : Held) (gone : Bool) (new rest : List Held) → is_gone (after i) ≡ gone → items_of new ≡ map (λ i. with_state (after i) i) (filter (λ i. not (goes i)) rest)
    → items_of (turned after goes i ∷ new) ≡ map (λ i. with_state (after i) i) (filter (λ i. not (goes i)) (cond (not gone) (i ∷ rest) rest))
items_first after goes i true new rest is are =
    let now : Held = with_state (after i) i in
    elim (goes i) as (λ b. cond (not (is_gone (cond b Gone (after i)))) (with_state (cond b Gone (after i)) i ∷ items_of new) (items_of new) ≡ map (λ i. with_state (after i) i) (filter (λ i. not (goes i)) rest)) [
      | true ↦ are
      | false ↦ ap (λ (b : Bool). cond (not b) (now ∷ items_of new) (items_of new)) is ∙ are
    ]
items_first after goes i false new rest is are =
    let now : Held = with_state (after i) i in
    let left : List Held = filter (λ i. not (goes i)) rest in
    elim (goes i) as (λ b. cond (not (is_gone (cond b Gone (after i)))) (with_state (cond b Gone (after i)) i ∷ items_of new) (items_of new) ≡ map (λ i. with_state (after i) i) (cond (not b) (i ∷ left) left)) [
      | true ↦ are
      | false ↦ ap (λ (b : Bool). cond (not b) (now ∷ items_of new) (items_of new)) is ∙ ap (λ (is : List Held). now ∷ is) are
    ]

pub items_turned : (after : Held → State) (goes : Held → Bool) → (places : List Held) → Each (λ i. is_gone (after i) ≡ is_gone i.state) places
    → items_of (map (turned after goes) places) ≡ map (λ i. with_state (after i) i) (filter (λ i. not (goes i)) (items_of places))
items_turned after goes [] stay = refl
items_turned after goes (i ∷ places) stay = items_first after goes i (is_gone i.state) (map (turned after goes) places) (items_of places) stay.0 (items_turned after goes places stay.1)

pub items_changed : (after : Held → State) → (places : List Held) → Each (λ i. is_gone (after i) ≡ is_gone i.state) places → items_of (map (λ i. with_state (after i) i) places) ≡ map (λ i. with_state (after i) i) (items_of places)
items_changed after places stay = items_turned after (λ i. false) places stay ∙ ap (map (λ i. with_state (after i) i)) (filter_same (items_of places))

not_not : (b : Bool) → not (not b) ≡ b
not_not true = refl
not_not false = refl

pub items_left : (stays : Held → Bool) (places : List Held) → items_of (map (turned (λ i. i.state) (λ i. not (stays i))) places) ≡ filter stays (items_of places)
items_left stays places =
    items_turned (λ i. i.state) (λ i. not (stays i)) places (each_of (λ i. is_gone i.state ≡ is_gone i.state) (λ i. refl) places)
    ∙ (map_same (filter (λ i. not (not (stays i))) (items_of places)) ∙ (λ j. filter (λ i. not_not (stays i) j) (items_of places)))

-- an empty place at the end has no item
pub items_before : (places : List Held) (n : ℕ) (d : Held) → n < length places → is_gone (get_or places n d).state ≡ true → items_of (take (suc n) places) ≡ items_of (take n places)
items_before places n d h gone =
    let i : Held = get_or places n d in
    ap items_of (take-suc places n d h)
    ∙ (filter-append is_there (take n places) (i ∷ [])
    ∙ (ap (λ (b : Bool). items_of (take n places) ++ cond (not b) (i ∷ []) []) gone ∙ append-nil (items_of (take n places))))

-- what a test finds
any_first : (t : Held → Bool) (i : Held) (gone all : Bool) (rest : List Held) → all ≡ list_any t rest → ((not gone && t i) || all) ≡ list_any t (cond (not gone) (i ∷ rest) rest)
any_first t i true all rest is = is
any_first t i false all rest is = ap (λ (c : Bool). t i || c) is

pub any_items : (t : Held → Bool) (places : List Held) → list_any (has t) places ≡ list_any t (items_of places)
any_items t [] = refl
any_items t (i ∷ places) = any_first t i (is_gone i.state) (list_any (has t) places) (items_of places) (any_items t places)

-- keys stay
pub key_stays : (by : By) (s : State) (i : Held) → key_of by (with_state s i) ≡ key_of by i
key_stays Page s i = refl
key_stays Frame s i = refl
key_stays Root s i = refl

pub keys_stay : (after : Held → State) (by : By) (places : List Held) → map (key_of by) (map (λ i. with_state (after i) i) places) ≡ map (key_of by) places
keys_stay after by [] = refl
keys_stay after by (i ∷ places) = λ j. key_stays by (after i) i j ∷ keys_stay after by places j

-- a change of all leaves the keys as they were
pub all_stay : (after : Held → State) (by : By) (keys : List ℕ) (places now : List Held) → keys ≡ map (key_of by) places → now ≡ map (λ i. with_state (after i) i) places → keys ≡ map (key_of by) now
all_stay after by keys places now were is = were ∙ (sym (keys_stay after by places) ∙ ap (map (key_of by)) (sym is))

-- so does that of one, which keeps its root and its entry
pub one_stays : (by : By) (keys : List ℕ) (places : List Held) (place : ℕ) (old new : Held) → keys ≡ map (key_of by) places → key_of by new ≡ key_of by (get_or places place old) → keys ≡ map (key_of by) (set places place new)
one_stays by keys places place old new were is = were ∙ sym (map-set_same (key_of by) places place new old is)

-- a walk goes on where the item of its place is changed, so that it is not looked for
pub on_without : (f : Held → ℕ) (k : ℕ) (c : Held → Bool) (places : List Held) (at : ℕ) (s : Held) → IsAt f k c places at → 0 < at → c s ≡ false → map f (set places (at - 1) s) ≡ map f places
    → (older : ℕ) → older ≡ last_place (get_or (map f places) (at - 1) 0) (take (at - 1) (map f places)) → IsAt f k c (set places (at - 1) s) older
on_without f k c places at s w some misses same older is =
    let low : at - 1 < length places = omega (arith, w.within) in
    next f k c (set places (at - 1) s) at s
    (record {
      within = omega (arith, w.within, length-set places (at - 1) s);
      key = λ some. ap (λ (ks : List ℕ). get_or ks (at - 1) 0) same ∙ w.key some;
      none = ap (list_any (keyed f k c)) (drop-set-lt at places (at - 1) s (omega arith)) ∙ w.none;
    })
    some (ap c (get_or-set_same places (at - 1) s s low) ∙ misses) older
    (is ∙ (λ j. last_place (get_or (sym same j) (at - 1) 0) (take (at - 1) (sym same j))))

-- the keys up to a place, where the rest is cut off
pub front_keys : (f : Held → ℕ) (n : ℕ) (keys : List ℕ) (places now : List Held) → keys ≡ map f places → now ≡ take n places → take n keys ≡ map f (take n now)
front_keys f n keys places now is left = ap (take n) is ∙ (take-map f n places ∙ ap (map f) (sym (ap (take n) left ∙ take-take n n places (omega arith))))

-- the keys with one more place at the end
pub keys_append : (by : By) (keys old : List ℕ) (places new : List Held) (i : Held) → keys ≡ old ++ key_of by i ∷ [] → old ≡ map (key_of by) places → new ≡ places ++ i ∷ [] → keys ≡ map (key_of by) new
keys_append by keys old places new i is was more =
    is ∙ (ap (λ (ks : List ℕ). ks ++ key_of by i ∷ []) was ∙ (sym (map-append (key_of by) places (i ∷ [])) ∙ ap (map (key_of by)) (sym more)))
