-- The place of what is remembered, and bits.
use Rattle.std.proofs.Common.{◌≡◌, ℕ, Bool, true, false, ◌+◌, ◌/◌, ◌%◌, ◌^◌, ◌<◌, ◌≤◌, suc, Option, Some, None, List, [], ◌∷◌, ◌++◌, length, map, take, drop, get_or, set, ap, sym, ◌∙◌, refl, arith}
use Rattle.std.specs.Prelude.{◌==◌, ◌&&◌, cond, not}
use Rattle.std.proofs.lemmas.Bool.{true≢false}
use Rattle.std.specs.Int.{bit_at}
use Rattle.std.proofs.lemmas.List.{append-nil, drop_all, length-map, take_all}
use Rattle.std.proofs.Math.Pow.{pow_mono}
use Rattle.std.proofs.Math.Nat.{div-eq_of_lt}
use Rattle.watch_engine.specs.declared.held.Held.{Held}
use Rattle.watch_engine.specs.declared.held.LastLive.{LastLive}
use Rattle.watch_tables.specs.Ways.{later}
use Rattle.watch_engine.specs.Held.{held_from, is_of, last_translation, remembered, remembered_all}
use Rattle.watch_engine.specs.Places.{has, items_of, place_in}
use Rattle.watch_engine.specs.State.{is_gone}

-- a number of 64 bits has no bit from 64 on
pub high_bit : (n k : ℕ) → n < 2 ^ 64 → 64 ≤ k → (bit_at n k == 1) ≡ false
high_bit n k small high =
    let more : 2 ^ 64 ≤ 2 ^ k = pow_mono high in
    let none : n / 2 ^ k ≡ 0 = div-eq_of_lt (omega arith) in
    ap (λ q. q % 2 == 1) none

abbrev pub touched : LastLive → Held → Held
touched l i = record i { last_live = later i.last_live l.last_live }

module _ (l : LastLive) where
  abbrev test : Held → Bool
  test = is_of l.hart (last_translation l)

  -- with an item that is there, or after one that has gone
  not_first : (n : ℕ) (i : Held) (gone : Bool) (places : List Held) → (place_in (has test) (n + 1) places ≡ None → remembered l (items_of places) ≡ items_of places ++ held_from l ∷ [])
      → cond (not gone && test i) (Some n) (place_in (has test) (n + 1) places) ≡ None
      → remembered l (cond (not gone) (i ∷ items_of places) (items_of places)) ≡ cond (not gone) (i ∷ items_of places) (items_of places) ++ held_from l ∷ []
  not_first n i true places rest e = rest e
  not_first n i false places rest e =
      let held : List Held = items_of places in
      let go : (b : Bool) → cond b (Some n) (place_in (has test) (n + 1) places) ≡ None → cond b (touched l i ∷ held) (i ∷ remembered l held) ≡ i ∷ held ++ held_from l ∷ [] =
      λ b. elim b as (λ b. cond b (Some n) (place_in (has test) (n + 1) places) ≡ None → cond b (touched l i ∷ held) (i ∷ remembered l held) ≡ i ∷ held ++ held_from l ∷ []) [
        | true ↦ λ e. cc
        | false ↦ λ e. ap (λ is. i ∷ is) (rest e)
      ] in
      go (test i) e

  pub not_placed : (n : ℕ) (places : List Held) → place_in (has (is_of l.hart (last_translation l))) n places ≡ None → remembered l (items_of places) ≡ items_of places ++ held_from l ∷ []
  not_placed n [] e = refl
  not_placed n (i ∷ places) e = not_first n i (is_gone i.state) places (not_placed (n + 1) places) e

  pub record Placed (n place : ℕ) (places : List Held) : Type 0 where
    pub at : ℕ
    pub from : place ≡ n + at
    pub within : at < length places
    pub is : (i : Held) → i ≡ get_or places at i → items_of (set places at (touched l i)) ≡ remembered l (items_of places)

  is_later : (i : Held) (gone : Bool) (now held : List Held) → now ≡ remembered l held → (not gone && test i) ≡ false → cond (not gone) (i ∷ now) now ≡ remembered l (cond (not gone) (i ∷ held) held)
  is_later i true now held is t = is
  is_later i false now held is t = ap (λ is. i ∷ is) is ∙ sym (ap (λ b. cond b (touched l i ∷ held) (i ∷ remembered l held)) t)

  is_first : (i : Held) (gone : Bool) (held : List Held) → (not gone && test i) ≡ true → cond (not gone) (touched l i ∷ held) held ≡ remembered l (cond (not gone) (i ∷ held) held)
  is_first i true held t = absurd (true≢false (sym t))
  is_first i false held t = sym (ap (λ b. cond b (touched l i ∷ held) (i ∷ remembered l held)) t)

  pub placed : (n place : ℕ) (places : List Held) → place_in (has (is_of l.hart (last_translation l))) n places ≡ Some place → Placed n place places
  placed n place [] e = cc
  placed n place (i ∷ places) e =
      let held : List Held = items_of places in
      let go : (b : Bool) → has test i ≡ b → cond b (Some n) (place_in (has test) (n + 1) places) ≡ Some place → Placed n place (i ∷ places) =
      λ b. elim b as (λ b. has test i ≡ b → cond b (Some n) (place_in (has test) (n + 1) places) ≡ Some place → Placed n place (i ∷ places)) [
        | true ↦ λ t e.
            let same : n ≡ place = cc in
            record {
              at = 0;
              from = omega (arith, same);
              within = omega arith;
              is = λ j same. ap (λ (k : Held). items_of (touched l k ∷ places)) same ∙ is_first i (is_gone i.state) held t;
            }
        | false ↦ λ t e.
            let rest = placed (n + 1) place places e in
            record {
              at = suc rest.at;
              from = omega (arith, rest.from);
              within = omega (arith, rest.within);
              is = λ j same. is_later i (is_gone i.state) (items_of (set places rest.at (touched l j))) held (rest.is j same) t;
            }
      ] in
      go (has test i) refl e

pub remembered_push : (live : List LastLive) (l : LastLive) (held : List Held) → remembered_all (live ++ l ∷ []) held ≡ remembered l (remembered_all live held)
remembered_push [] l held = refl
remembered_push (m ∷ live) l held = remembered_push live l (remembered m held)

pub none_placed : (o : Option ℕ) → ((n : ℕ) → o ≡ Some n → ⊥) → o ≡ None
none_placed None f = refl
none_placed (Some n) f = absurd (f n refl)

-- a slice of all, written back
pub whole : (n : ℕ) (new slice items : List Held) → slice ≡ items → length slice ≡ n → length new ≡ length slice → take n (new ++ drop (length new) items) ≡ new
whole n new slice items value long same =
    let size : length slice ≡ length items = ap length value in
    (λ j. take n (new ++ drop_all (length new) items (omega (arith, same)) j)) ∙ ((λ j. take n (append-nil new j)) ∙ take_all n new (omega (arith, same, long)))

pub mapped_whole : (f : Held → Held) (n : ℕ) (new slice items : List Held) → new ≡ map f slice → slice ≡ items → length slice ≡ n → take n (new ++ drop (length new) items) ≡ map f items
mapped_whole f n new slice items is value long = whole n new slice items value long (ap length is ∙ length-map slice f) ∙ (is ∙ ap (map f) value)
