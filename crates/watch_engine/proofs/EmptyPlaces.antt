-- How many places are empty.
use Rattle.std.proofs.Common.{◌≡◌, ℕ, Bool, true, false, zero, suc, ◌+◌, ◌<◌, ◌≤◌, List, [], ◌∷◌, ◌++◌, length, map, take, get_or, set, ap, ◌∙◌, refl, arith}
use Rattle.std.specs.Prelude.{cond, filter, not, if◌then◌else◌}
use Rattle.std.proofs.lemmas.List.{length-append}
use Rattle.std.proofs.lemmas.List.Elements.{filter-append}
use Rattle.std.proofs.lemmas.List.Filters.{length-filter_both}
use Rattle.watch_engine.specs.declared.held.Held.{Held}
use Rattle.watch_engine.specs.declared.state.State.{State}
use Rattle.watch_engine.specs.Held.{Each, with_state}
use Rattle.watch_engine.specs.Places.{count_gone, is_there, items_of}
use Rattle.watch_engine.specs.State.{is_gone}

-- one if the place is empty
abbrev pub gone_in : Held → ℕ
gone_in i = if is_gone i.state then 1 else 0

one_more : (i : Held) (gone : Bool) (rest : List Held) → length (cond gone (i ∷ rest) rest) ≡ cond gone 1 0 + length rest
one_more i true rest = omega arith
one_more i false rest = omega arith

first : (i : Held) (places : List Held) → count_gone (i ∷ places) ≡ gone_in i + count_gone places
first i places = one_more i (is_gone i.state) (filter (λ i. is_gone i.state) places)

-- the other places have items
pub gone_and_there : (places : List Held) → count_gone places + length (items_of places) ≡ length places
gone_and_there places = length-filter_both (λ (i : Held). is_gone i.state) is_there (λ i. refl) places

pub gone_within : (places : List Held) → count_gone places ≤ length places
gone_within places = omega (arith, gone_and_there places)

-- of one that is set anew
pub gone_set : (places : List Held) (n : ℕ) (new : Held) → count_gone (set places n new) ≤ count_gone places + gone_in new
gone_set [] n new = omega arith
gone_set (i ∷ places) zero new = omega (arith, first i places, first new places)
gone_set (i ∷ places) (suc n) new = omega (arith, first i places, first i (set places n new), gone_set places n new)

-- and is as empty as before
pub gone_same : (places : List Held) (n : ℕ) (old new : Held) → old ≡ get_or places n old → is_gone new.state ≡ is_gone old.state → count_gone (set places n new) ≤ count_gone places
gone_same [] n old new read same = omega arith
gone_same (i ∷ places) zero old new read same =
    let both : gone_in new ≡ gone_in i = ap (λ (b : Bool). if b then 1 else 0) (same ∙ ap (λ (k : Held). is_gone k.state) read) in
    omega (arith, first i places, first new places)
gone_same (i ∷ places) (suc n) old new read same = omega (arith, first i places, first i (set places n new), gone_same places n old new read same)

-- where none goes
pub gone_changed : (after : Held → State) (places : List Held) → Each (λ i. is_gone (after i) ≡ is_gone i.state) places → count_gone (map (λ i. with_state (after i) i) places) ≡ count_gone places
gone_changed after [] stay = refl
gone_changed after (i ∷ places) stay =
    let both : gone_in (with_state (after i) i) ≡ gone_in i = ap (λ (b : Bool). if b then 1 else 0) stay.0 in
    omega (arith, first i places, first (with_state (after i) i) (map (λ i. with_state (after i) i) places), gone_changed after places stay.1)

-- with one more place at the end
pub gone_append : (places : List Held) (i : Held) → count_gone (places ++ i ∷ []) ≡ count_gone places + gone_in i
gone_append places i =
    let gone : Held → Bool = λ i. is_gone i.state in
    ap length (filter-append gone places (i ∷ [])) ∙ (length-append (filter gone places) (filter gone (i ∷ [])) ∙ omega (arith, first i []))

-- of those up to one that is set anew
pub gone_front : (places : List Held) (n : ℕ) (new : Held) → n < length places → count_gone (take (suc n) (set places n new)) ≤ count_gone (take n places) + gone_in new
gone_front [] n new h = absurd (omega arith)
gone_front (i ∷ places) zero new h = omega (arith, first new [])
gone_front (i ∷ places) (suc n) new h = omega (arith, first i (take n places), first i (take (suc n) (set places n new)), gone_front places n new (omega arith))

-- where all are closed up, no place is empty, and all items are there
pub record IsClosed (places : List Held) : Type 0 where
  pub same : items_of places ≡ places
  pub none : count_gone places ≡ 0

one_closed : (i : Held) (gone : Bool) (rest : List Held) → is_gone i.state ≡ gone → IsClosed rest → IsClosed (cond (not gone) (i ∷ rest) rest)
one_closed i true rest is closed = closed
one_closed i false rest is closed =
    let there : gone_in i ≡ 0 = ap (λ (b : Bool). if b then 1 else 0) is in
    record {
      same = ap (λ (b : Bool). cond (not b) (i ∷ items_of rest) (items_of rest)) is ∙ ap (λ (is : List Held). i ∷ is) closed.same;
      none = omega (arith, first i rest, closed.none);
    }

pub all_closed : (places : List Held) → IsClosed (items_of places)
all_closed [] = record { same = refl; none = refl }
all_closed (i ∷ places) = one_closed i (is_gone i.state) (items_of places) refl (all_closed places)
