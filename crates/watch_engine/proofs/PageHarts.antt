-- The harts of the items of a page, and what is remembered by them.
use Rattle.std.proofs.Common.{◌≡◌, ℕ, Bool, true, false, ◌+◌, ◌-◌, ◌<◌, List, [], ◌∷◌, ◌++◌, length, map, replicate, take, drop, get_or, ap, sym, ◌∙◌, refl, arith, zero, suc, inr}
use Rattle.std.specs.Prelude.{◌==◌, ◌&&◌, ◌||◌, cond}
use Rattle.std.specs.List.{list_any}
use Rattle.std.proofs.lemmas.Bool.{and_from, and_parts, eq-eqb, eqb-true, false_from_ne_true, true≢false}
use Rattle.std.proofs.lemmas.List.{take_more}
use Rattle.pte.specs.Address.{Span, level_of}
use Rattle.watch_engine.specs.declared.held.Held.{Held}
use Rattle.watch_engine.specs.declared.held.LastLive.{LastLive}
use Rattle.watch_engine.specs.declared.keys.By.TheVariants.{Page}
use Rattle.watch_engine.specs.Chains.{last_place}
use Rattle.watch_engine.specs.Held.{held_from, is_of, last_translation, remembered, remembered_all}
use Rattle.watch_engine.specs.Keys.{key_of, page_key}
use Rattle.watch_engine.specs.PageRuns.{AreHartsOf, AreRememberedUpTo, is_on_page, is_that_page}
use Rattle.watch_engine.specs.Places.{has, items_of}
use Rattle.watch_engine.proofs.Emptying.{any_items}
use Rattle.watch_engine.proofs.Lists.{of_same, same_size}
use Rattle.watch_engine.proofs.Placed.{remembered_push, touched}
use Rattle.watch_engine.proofs.Walks.{IsAt, keyed, next, none_among, or_parts, start}

pub same_page : (a b : Span) → is_that_page a b ≡ true → a ≡ b
same_page a b is =
    let p = and_parts (a.base == b.base) _ is in
    let base : a.base ≡ b.base = eqb-true _ _ p.0 in
    let size : a.size ≡ b.size = same_size _ _ (eqb-true _ _ p.1) in
    λ j. record { base = base j; size = size j }

page_same : (a b : Span) → a ≡ b → is_that_page a b ≡ true
page_same a b is = and_from _ _ (eq-eqb _ _ (ap (λ (p : Span). p.base) is)) (eq-eqb _ _ (ap (λ (p : Span). level_of p.size) is))

abbrev pub on : Span → ℕ → Held → Bool
on page hart s = has (is_on_page page hart) s

-- a walk along the items with the key of a page is at a place, and has the harts of those from there on
pub record Gathers (page : Span) (items : List Held) (at : ℕ) (harts : List Bool) : Type 0 where
  pub walk : IsAt (key_of Page) (page_key page) (λ _. false) items at
  pub others : (hart : ℕ) → get_or harts hart true ≡ false → IsAt (key_of Page) (page_key page) (on page hart) items at

replicated : (count hart : ℕ) → get_or (replicate count true) hart true ≡ true
replicated zero hart = refl
replicated (suc count) zero = refl
replicated (suc count) (suc hart) = replicated count hart

pub gathers_first : (page : Span) (items : List Held) (at : ℕ) (harts : List Bool) → at ≡ last_place (page_key page) (map (key_of Page) items) → Gathers page items at harts
gathers_first page items at harts is =
    record {
      walk = start (key_of Page) (page_key page) (λ _. false) items at is;
      others = λ hart none. start (key_of Page) (page_key page) (on page hart) items at is;
    }

pub gathers_on : (page : Span) (items : List Held) (at : ℕ) (d : Held) (old new : List Bool) → Gathers page items at old → 0 < at
    → ((hart : ℕ) → get_or new hart true ≡ (on page hart (get_or items (at - 1) d) || get_or old hart true))
    → (older : ℕ) → older ≡ last_place (get_or (map (key_of Page) items) (at - 1) 0) (take (at - 1) (map (key_of Page) items)) → Gathers page items older new
gathers_on page items at d old new was some with older is =
    record {
      walk = next (key_of Page) (page_key page) (λ _. false) items at d was.walk some refl older is;
      others = λ hart none.
          let parts = or_parts _ _ (sym (with hart) ∙ none) in
          next (key_of Page) (page_key page) (on page hart) items at d (was.others hart parts.1) some parts.0 older is;
    }

has_key : (page : Span) (hart : ℕ) (s : Held) → on page hart s ≡ true → key_of Page s ≡ page_key page
has_key page hart s is =
    let of = and_parts _ (is_on_page page hart s) is in
    ap page_key (same_page s.entry.page page (and_parts (is_that_page s.entry.page page) (s.hart == hart) of.1).0)

pub gathered : (page : Span) (items : List Held) (at : ℕ) (harts : List Bool) → Gathers page items at harts → at ≡ 0 → AreHartsOf page (items_of items) harts
gathered page items at harts all end = λ hart none.
    let keys : list_any (keyed (key_of Page) (page_key page) (on page hart)) items ≡ false =
    ap (λ (n : ℕ). list_any (keyed (key_of Page) (page_key page) (on page hart)) (drop n items)) (sym end) ∙ (all.others hart none).none in
    sym (any_items (is_on_page page hart) items) ∙ none_among (key_of Page) (on page hart) 0 (λ n. n) (page_key page) items (λ n few. absurd (omega arith)) keys (λ s is. inr (has_key page hart s is))

-- where no hart is left out, each item is of one of them
pub all_harts : (page : Span) (held : List Held) (count : ℕ) → AreHartsOf page held (replicate count true)
all_harts page held count = λ hart none. absurd (true≢false (sym (replicated count hart) ∙ none))

-- what is of no hart of its page is not there
pub not_there : (s : LastLive) (held : List Held) → list_any (is_on_page s.entry.page s.hart) held ≡ false → remembered s held ≡ held ++ held_from s ∷ []
not_there s [] none = refl
not_there s (i ∷ held) none =
    let parts = or_parts (is_on_page s.entry.page s.hart i) _ none in
    let other : is_of s.hart (last_translation s) i ≡ false =
    false_from_ne_true _ (λ is.
    let same = of_same s.hart (last_translation s) i is in
    true≢false (sym (and_from _ _ (page_same i.entry.page s.entry.page (ap (λ x. x.entry.page) same.translation)) (eq-eqb _ _ same.hart)) ∙ parts.0)) in
    ap (λ b. cond b (touched s i ∷ held) (i ∷ remembered s held)) other ∙ ap (λ is. i ∷ is) (not_there s held parts.1)

still_none : (page : Span) (hart : ℕ) (s : LastLive) (held : List Held) → (s.hart == hart) ≡ false → list_any (is_on_page page hart) held ≡ false → list_any (is_on_page page hart) (remembered s held) ≡ false
still_none page hart s [] other none = elim (is_that_page s.entry.page page) as (λ b. ((b && (s.hart == hart)) || false) ≡ false) [
  | true ↦ ap (λ b. b || false) other
  | false ↦ refl
]
still_none page hart s (i ∷ held) other none =
    let parts = or_parts (is_on_page page hart i) _ none in
    elim (is_of s.hart (last_translation s) i) as (λ b. list_any (is_on_page page hart) (cond b (touched s i ∷ held) (i ∷ remembered s held)) ≡ false) [
      | true ↦ none
      | false ↦ ap (λ b. b || list_any (is_on_page page hart) (remembered s held)) parts.0 ∙ still_none page hart s held other parts.1
    ]

-- whose hart is among them once it is remembered
pub still_harts : (page : Span) (s : LastLive) (held : List Held) (harts : List Bool) → AreHartsOf page held harts → get_or harts s.hart true ≡ true
    → AreHartsOf page (remembered s held) harts
still_harts page s held harts are there = λ hart none.
    still_none page hart s held (false_from_ne_true _ (λ same. true≢false (sym there ∙ (ap (λ (h : ℕ). get_or harts h true) (eqb-true _ _ same) ∙ none)))) (are hart none)

-- one more is remembered
pub one_more : (live : List LastLive) (from at : ℕ) (l : LastLive) (old held new : List Held) → at < length live → l ≡ get_or live at l
    → AreRememberedUpTo live from at old held → new ≡ remembered l held → AreRememberedUpTo live from (at + 1) old new
one_more live from at l old held new within is upto one = λ first begin.
    one ∙ (ap (remembered l) (upto first begin)
    ∙ (sym (remembered_push (take at live) l first)
    ∙ ((λ j. remembered_all (take at live ++ is j ∷ []) first)
    ∙ sym (ap (λ ls. remembered_all ls first) (take_more live at l within)))))
