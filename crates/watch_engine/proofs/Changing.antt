-- Changes of items in their places, one after another: what has been changed is not changed again.
use Rattle.std.proofs.Common.{◌≡◌, ℕ, Bool, true, false, zero, suc, List, [], ◌∷◌, map, get_or, set, ap, sym, ◌∙◌, refl, inl, inr}
use Rattle.std.specs.Prelude.{◌&&◌, ◌||◌, Option, Some, None, cond, filter, is_some, not}
use Rattle.std.specs.List.{list_any}
use Rattle.std.proofs.Math.Seq.{map-set_same}
use Rattle.std.proofs.lemmas.Bool.{cases_Bool, true≢false}
use Rattle.watch_engine.specs.declared.held.Held.{Held}
use Rattle.watch_engine.specs.declared.state.State.{State}
use Rattle.watch_engine.specs.declared.state.State.TheVariants.{Current, Gone, Stale}
use Rattle.watch_engine.specs.Effects.{AreThere, IsPartly, all_changed, changed, is_due, or_same}
use Rattle.watch_engine.specs.Held.{with_state}
use Rattle.watch_engine.specs.Keys.{key_of}
use Rattle.watch_engine.specs.Places.{is_there, items_of}
use Rattle.watch_engine.specs.State.{is_gone}
use Rattle.watch_engine.proofs.Emptying.{items_changed, items_left, key_stays}
use Rattle.watch_engine.proofs.Lists.{each_of}
use Rattle.watch_engine.proofs.Walks.{and_no, or_parts}

neither : (a b t : Bool) → (a && t) ≡ false → (b && t) ≡ false → ((a || b) && t) ≡ false
neither true b t first second = first
neither false b t first second = second

-- where a test passes none, a narrower one passes none
pub none_narrower : (wide narrow : Held → Bool) → ((i : Held) → narrow i ≡ true → wide i ≡ true) → (items : List Held) → list_any wide items ≡ false → list_any narrow items ≡ false
none_narrower wide narrow is [] none = refl
none_narrower wide narrow is (i ∷ items) none =
    let parts = or_parts (wide i) _ none in
    elim (cases_Bool (narrow i)) [
      | inl passes ↦ absurd (true≢false (sym (is i passes) ∙ parts.0))
      | inr fails ↦ ap (λ (b : Bool). b || list_any narrow items) fails ∙ none_narrower wide narrow is items parts.1
    ]

pub none_of_none : (items : List Held) (test : Held → Bool) → list_any (λ i. false && test i) items ≡ false
none_of_none [] test = refl
none_of_none (i ∷ items) test = none_of_none items test

-- what passes one of two tests
pub none_either : (a b test : Held → Bool) (items : List Held) → list_any (λ i. a i && test i) items ≡ false → list_any (λ i. b i && test i) items ≡ false → list_any (λ i. (a i || b i) && test i) items ≡ false
none_either a b test [] first second = refl
none_either a b test (i ∷ items) first second =
    let p = or_parts (a i && test i) _ first in
    let q = or_parts (b i && test i) _ second in
    ap (λ (c : Bool). c || list_any (λ i. (a i || b i) && test i) items) (neither (a i) (b i) (test i) p.0 q.0) ∙ none_either a b test items p.1 q.1

none_set : (test : Held → Bool) (places : List Held) (n : ℕ) (new : Held) → test new ≡ false → list_any test places ≡ false → list_any test (set places n new) ≡ false
none_set test [] n new fails none = none
none_set test (i ∷ places) zero new fails none = ap (λ (b : Bool). b || list_any test places) fails ∙ (or_parts _ _ none).1
none_set test (i ∷ places) (suc n) new fails none =
    let parts = or_parts (test i) _ none in
    ap (λ (b : Bool). b || list_any test (set places n new)) parts.0 ∙ none_set test places n new fails parts.1

same_state : (gone : Bool) (to : Option State) (s : State) → (not gone && is_some to) ≡ false → cond gone s (or_same to s) ≡ s
same_state true to s none = refl
same_state false None s none = refl
same_state false (Some t) s none = absurd (true≢false none)

module _ (change : Held → Option State) where
  -- of what is not due
  pub unchanged : (i : Held) → is_due change i ≡ false → changed change i ≡ i
  unchanged i none = ap (λ (s : State). with_state s i) (same_state (is_gone i.state) (change i) i.state none)

  pub none_changed : (places : List Held) → list_any (is_due change) places ≡ false → map (changed change) places ≡ places
  none_changed [] none = refl
  none_changed (i ∷ places) none =
      let parts = or_parts (is_due change i) _ none in
      λ j. unchanged i parts.0 j ∷ none_changed places parts.1 j

  pub partly_none : (places : List Held) → IsPartly change places places
  partly_none places = record { all = refl; keys = λ by. refl; none = λ test none. none }

  pub partly_both : (old now new : List Held) → IsPartly change old now → IsPartly change now new → IsPartly change old new
  partly_both old now new a b =
      record {
        all = b.all ∙ a.all;
        keys = λ by. b.keys by ∙ a.keys by;
        none = λ test none. b.none test (a.none test none);
      }

  pub partly_at : (places : List Held) (n : ℕ) (d new : Held) → new ≡ changed change (get_or places n d) → is_due change new ≡ false → IsPartly change places (set places n new)
  partly_at places n d new is once =
      record {
        all = map-set_same (changed change) places n new d (unchanged new once ∙ is);
        keys = λ by. map-set_same (key_of by) places n new d (ap (key_of by) is ∙ key_stays by (changed change (get_or places n d)).state (get_or places n d));
        none = λ test none. none_set (λ i. test i && is_due change i) places n new (ap (λ (b : Bool). test new && b) once ∙ and_no (test new)) none;
      }

  there_first : (i : Held) (gone : Bool) (new rest : List Held) → is_gone i.state ≡ gone → items_of new ≡ items_of (map (changed change) rest)
      → items_of (changed change i ∷ new) ≡ items_of (map (changed change) (cond (not gone) (i ∷ rest) rest))
  there_first i true new rest is are =
      let stays : is_gone (changed change i).state ≡ true = ap (λ (b : Bool). is_gone (cond b i.state (or_same (change i) i.state))) is ∙ is in
      ap (λ (b : Bool). cond (not b) (changed change i ∷ items_of new) (items_of new)) stays ∙ are
  there_first i false new rest is are = ap (λ (is : List Held). cond (is_there (changed change i)) (changed change i ∷ is) is) are

  -- what is there is changed as all places are
  pub items_after : (places : List Held) → items_of (map (changed change) places) ≡ all_changed change (items_of places)
  items_after [] = refl
  items_after (i ∷ places) = there_first i (is_gone i.state) (map (changed change) places) (items_of places) refl (items_after places)

-- what does not stay is left out
drop_same : (stays : Bool) (s : State) → cond (is_gone s) s (or_same (cond stays None (Some Gone)) s) ≡ cond (not stays) Gone s
drop_same true Current = refl
drop_same true (Stale given since) = refl
drop_same true Gone = refl
drop_same false Current = refl
drop_same false (Stale given since) = refl
drop_same false Gone = refl

pub dropped : (stays : Held → Bool) (held : List Held) → AreThere held → all_changed (λ i. cond (stays i) None (Some Gone)) held ≡ filter stays held
dropped stays held there =
    (λ j. items_of (map (λ i. with_state (drop_same (stays i) i.state j) i) held)) ∙ (items_left stays held ∙ ap (filter stays) there)

-- where none goes, each is changed
pub each_changed : (change : Held → Option State) (after : Held → State) → ((i : Held) → (changed change i).state ≡ after i) → ((i : Held) → is_gone (after i) ≡ is_gone i.state)
    → (held : List Held) → AreThere held → all_changed change held ≡ map (λ i. with_state (after i) i) held
each_changed change after is stays held there =
    (λ j. items_of (map (λ i. with_state (is i j) i) held))
    ∙ (items_changed after held (each_of (λ i. is_gone (after i) ≡ is_gone i.state) stays held) ∙ ap (map (λ i. with_state (after i) i)) there)
