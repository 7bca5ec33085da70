-- The last place at which a list has what passes a test, and chains of such places.
use Rattle.std.proofs.Common.{◌≡◌, ℕ, ◌<◌, ◌≤◌, ◌+◌, ◌-◌, Bool, true, false, List, [], ◌∷◌, ◌++◌, length, take, get_or, set, ap, sym, subst, ◌∙◌, refl, arith, zero, suc, inl, inr, length-append}
use Rattle.std.specs.Prelude.{◌==◌, if◌then◌else◌}
use Rattle.std.proofs.lemmas.Bool.{cases_Bool, eq-eqb, eqb-true, eqb-false, false_from_ne_true, true≢false}
use Rattle.std.proofs.lemmas.List.{take_more, length-take-le, get_or-set_same, get_or-set_other, take-append-le}
use Rattle.std.proofs.Math.Seq.{get_or-append_seam, take-append_seam, take-length, take-suc}
use Rattle.std.proofs.Math.ListN.{get_or-append}
use Rattle.watch_engine.specs.Chains.{AreChained, AreChains, IsFirst, IsNext, bucket_of, is_in, last_from, last_place, last_where}

from_snoc : (test : ℕ → Bool) (found place : ℕ) (keys : List ℕ) (k : ℕ)
    → last_from test found place (keys ++ k ∷ [])
    ≡ (if test k then (place + length keys) + 1 else last_from test found place keys)
from_snoc test found place [] k =
    ap (λ n. if test k then n + 1 else found) (omega arith)
from_snoc test found place (j ∷ keys) k =
    from_snoc test (if test j then place + 1 else found) (place + 1) keys k
    ∙ ap (λ n. if test k then n + 1 else last_from test (if test j then place + 1 else found) (place + 1) keys) (omega arith)

last_snoc : (test : ℕ → Bool) (keys : List ℕ) (k : ℕ)
    → last_where test (keys ++ k ∷ []) ≡ (if test k then length keys + 1 else last_where test keys)
last_snoc test keys k =
    from_snoc test 0 0 keys k ∙ ap (λ n. if test k then n + 1 else last_where test keys) (omega arith)

last_more : (test : ℕ → Bool) (keys : List ℕ) (n : ℕ) → n < length keys
    → last_where test (take (suc n) keys)
    ≡ (if test (get_or keys n 0) then n + 1 else last_where test (take n keys))
last_more test keys n h =
    ap (last_where test) (take-suc keys n 0 h)
    ∙ last_snoc test (take n keys) (get_or keys n 0)
    ∙ ap (λ m. if test (get_or keys n 0) then m + 1 else last_where test (take n keys)) (length-take-le n keys (omega arith))

pub last_yes : (test : ℕ → Bool) (keys : List ℕ) (n : ℕ) → n < length keys
    → test (get_or keys n 0) ≡ true → last_where test (take (suc n) keys) ≡ suc n
last_yes test keys n h fits =
    last_more test keys n h ∙ ap (λ b. if b then n + 1 else last_where test (take n keys)) fits ∙ omega arith

pub last_no : (test : ℕ → Bool) (keys : List ℕ) (n : ℕ) → n < length keys
    → test (get_or keys n 0) ≡ false → last_where test (take (suc n) keys) ≡ last_where test (take n keys)
last_no test keys n h differs =
    last_more test keys n h ∙ ap (λ b. if b then n + 1 else last_where test (take n keys)) differs

-- it lies within the list
pub last_within : (test : ℕ → Bool) (keys : List ℕ) (n : ℕ) → n ≤ length keys
    → last_where test (take n keys) ≤ n
last_within test keys zero h = omega arith
last_within test keys (suc n) h =
    let below : last_where test (take n keys) ≤ n = last_within test keys n (omega arith) in
    elim (cases_Bool (test (get_or keys n 0))) [
      | inl fits ↦ (let is = last_yes test keys n (omega arith) fits in omega arith)
      | inr differs ↦ (let is = last_no test keys n (omega arith) differs in omega arith)
    ]

-- the last that passes does so
pub last_passes : (test : ℕ → Bool) (keys : List ℕ) (n : ℕ) → n ≤ length keys
    → 0 < last_where test (take n keys)
    → test (get_or keys (last_where test (take n keys) - 1) 0) ≡ true
last_passes test keys zero h some = absurd (omega arith)
last_passes test keys (suc n) h some =
    elim (cases_Bool (test (get_or keys n 0))) [
      | inl fits ↦
          (let is = last_yes test keys n (omega arith) fits in
          let at : last_where test (take (suc n) keys) - 1 ≡ n = omega arith in
          ap (λ m. test (get_or keys m 0)) at ∙ fits)
      | inr differs ↦
          (let is = last_no test keys n (omega arith) differs in
          ap (λ m. test (get_or keys (m - 1) 0)) is ∙ last_passes test keys n (omega arith) (omega arith))
    ]

-- a search for what passes a narrower test may go on from the last that passes a wider one
pub last_skips : (wide narrow : ℕ → Bool) → ((k : ℕ) → narrow k ≡ true → wide k ≡ true)
    → (keys : List ℕ) (n : ℕ) → n ≤ length keys
    → last_where narrow (take n keys) ≡ last_where narrow (take (last_where wide (take n keys)) keys)
last_skips wide narrow goes keys zero h = refl
last_skips wide narrow goes keys (suc n) h =
    elim (cases_Bool (wide (get_or keys n 0))) [
      | inl fits ↦ ap (λ m. last_where narrow (take m keys)) (sym (last_yes wide keys n (omega arith) fits))
      | inr differs ↦
          (let other : narrow (get_or keys n 0) ≡ false = false_from_ne_true _ (λ is. true≢false (sym (goes _ is) ∙ differs)) in
          last_no narrow keys n (omega arith) other
          ∙ last_skips wide narrow goes keys n (omega arith)
          ∙ ap (λ m. last_where narrow (take m keys)) (sym (last_no wide keys n (omega arith) differs)))
    ]

in_bucket : (n key : ℕ) (b : ℕ) → bucket_of n key ≡ b → (k : ℕ) → (k == key) ≡ true → is_in n b k ≡ true
in_bucket n key b e k is = eq-eqb _ _ (ap (bucket_of n) (eqb-true k key is) ∙ e)

-- the last place of a key among the first n is found from the last place of its bucket there
pub last_by_bucket : (n key b : ℕ) → bucket_of n key ≡ b → (keys : List ℕ) (count : ℕ) → count ≤ length keys
    → last_place key (take count keys) ≡ last_place key (take (last_where (is_in n b) (take count keys)) keys)
last_by_bucket n key b e keys count h =
    last_skips (is_in n b) (λ k. k == key) (in_bucket n key b e) keys count h

pub last_in_bucket : (n b : ℕ) (keys : List ℕ) (count : ℕ) → count ≤ length keys
    → 0 < last_where (is_in n b) (take count keys)
    → bucket_of n (get_or keys (last_where (is_in n b) (take count keys) - 1) 0) ≡ b
last_in_bucket n b keys count h some = eqb-true _ _ (last_passes (is_in n b) keys count h some)

-- where the key at a place is another, the last place is that below it; else it is this place
pub last_below : (key : ℕ) (keys : List ℕ) (at : ℕ) → 0 < at → at ≤ length keys
    → (get_or keys (at - 1) 0 ≡ key → ⊥) → last_place key (take at keys) ≡ last_place key (take (at - 1) keys)
last_below key keys zero some h differs = absurd (omega arith)
last_below key keys (suc n) some h differs =
    let is : suc n - 1 ≡ n = omega arith in
    let other : (get_or keys n 0 == key) ≡ false = false_from_ne_true _ (λ e. differs (ap (λ m. get_or keys m 0) is ∙ eqb-true _ _ e)) in
    last_no (λ k. k == key) keys n (omega arith) other ∙ ap (λ m. last_place key (take m keys)) (sym is)

pub last_here : (key : ℕ) (keys : List ℕ) (at : ℕ) → 0 < at → at ≤ length keys
    → get_or keys (at - 1) 0 ≡ key → last_place key (take at keys) ≡ at
last_here key keys zero some h fits = absurd (omega arith)
last_here key keys (suc n) some h fits =
    let is : suc n - 1 ≡ n = omega arith in
    last_yes (λ k. k == key) keys n (omega arith) (eq-eqb _ _ (ap (λ m. get_or keys m 0) (sym is) ∙ fits))

-- with one more key at the head of its bucket's chain
more_chained : (n : ℕ) (keys links heads : List ℕ) (k b : ℕ) → length keys < length links
    → length heads ≡ n → b < n → b ≡ bucket_of n k → AreChained n keys links heads
    → AreChained n (keys ++ k ∷ []) (set links (length keys) (get_or heads b 0)) (set heads b (length keys + 1))
more_chained n keys links heads k b room many within is was =
    record {
      older = λ place h. elim (cases_Bool (place == length keys)) [
        | inl fits ↦
            (let at : place ≡ length keys = eqb-true _ _ fits in
            let v = get_or heads b 0 in
            let key = get_or-append_seam keys k [] 0 in
            let front = take-append_seam keys (k ∷ []) in
            ap (λ (m : ℕ). get_or (set links (length keys) v) m 0) at
            ∙ get_or-set_same links (length keys) v 0 room
            ∙ was.newest b within
            ∙ (λ i. last_where (is_in n (is i)) keys)
            ∙ (λ i. last_where (is_in n (bucket_of n (sym key i))) (sym front i))
            ∙ ap (λ (m : ℕ). last_where (is_in n (bucket_of n (get_or (keys ++ k ∷ []) m 0))) (take m (keys ++ k ∷ []))) (sym at))
        | inr differs ↦
            (let other : place ≡ length keys → ⊥ = eqb-false _ _ differs in
            let size : length (keys ++ k ∷ []) ≡ length keys + 1 = length-append keys (k ∷ []) in
            let below : place < length keys = omega arith in
            let key = get_or-append keys (k ∷ []) 0 place below in
            let front = take-append-le place keys (k ∷ []) (omega arith) in
            get_or-set_other links (length keys) place (get_or heads b 0) 0 other
            ∙ was.older place below
            ∙ (λ i. last_where (is_in n (bucket_of n (sym key i))) (sym front i)))
      ];
      newest = λ bucket h. elim (cases_Bool (is_in n bucket k)) [
        | inl fits ↦
            (let at : bucket_of n k ≡ bucket = eqb-true _ _ fits in
            ap (λ (m : ℕ). get_or (set heads b (length keys + 1)) m 0) (sym at ∙ sym is)
            ∙ get_or-set_same heads b (length keys + 1) 0 (omega arith)
            ∙ sym (last_snoc (is_in n bucket) keys k ∙ ap (λ t. if t then length keys + 1 else last_where (is_in n bucket) keys) fits))
        | inr differs ↦
            (let other : bucket ≡ b → ⊥ = λ e. eqb-false _ _ differs (sym is ∙ sym e) in
            get_or-set_other heads b bucket (length keys + 1) 0 other
            ∙ was.newest bucket h
            ∙ sym (last_snoc (is_in n bucket) keys k ∙ ap (λ t. if t then length keys + 1 else last_where (is_in n bucket) keys) differs))
      ];
    }

pub link_more : (n : ℕ) (keys links heads : List ℕ) (place b : ℕ) → place < length keys
    → length links ≡ length keys → length heads ≡ n → b < n → b ≡ bucket_of n (get_or keys place 0)
    → AreChained n (take place keys) links heads
    → AreChained n (take (place + 1) keys) (set links place (get_or heads b 0)) (set heads b (place + 1))
link_more n keys links heads place b h links_too many within is was =
    let size : length (take place keys) ≡ place = length-take-le place keys (omega arith) in
    let more = more_chained n (take place keys) links heads (get_or keys place 0) b (omega arith) many within is was in
    let moved = subst (λ (m : ℕ). AreChained n (take place keys ++ get_or keys place 0 ∷ []) (set links m (get_or heads b 0)) (set heads b (m + 1))) size more in
    subst (λ all. AreChained n all (set links place (get_or heads b 0)) (set heads b (place + 1))) (sym (take_more keys place 0 h)) moved

-- the walk down a chain goes on by its links
pub next : (keys links heads : List ℕ) → AreChains keys links heads → (at older : ℕ) → 0 < at → at ≤ length keys
    → older ≡ get_or links (at - 1) 0 → IsNext (length heads) keys at older
next keys links heads are at older some within is =
    let n : ℕ = length heads in
    let b : ℕ = bucket_of n (get_or keys (at - 1) 0) in
    let place : at - 1 < length keys = omega arith in
    let count : at - 1 ≤ length keys = omega arith in
    let found : last_where (is_in n b) (take (at - 1) keys) ≡ older = sym (is ∙ are.chained.older (at - 1) place) in
    let below : last_where (is_in n b) (take (at - 1) keys) ≤ at - 1 = last_within (is_in n b) keys (at - 1) count in
    record {
      smaller = omega arith;
      within = omega arith;
      bucket = subst (λ (m : ℕ). 0 < m → bucket_of n (get_or keys (m - 1) 0) ≡ b) found (last_in_bucket n b keys (at - 1) count);
      same = λ key e. last_by_bucket n key b e keys (at - 1) count ∙ ap (λ (m : ℕ). last_place key (take m keys)) found;
    }

-- and begins at a head
pub first : (keys links heads : List ℕ) → AreChains keys links heads → (key newest b : ℕ) → b < length heads → b ≡ bucket_of (length heads) key
    → newest ≡ get_or heads b 0 → IsFirst (length heads) keys key newest
first keys links heads are key newest b room e is =
    let n : ℕ = length heads in
    let all : take (length keys) keys ≡ keys = take-length keys in
    let found : last_where (is_in n b) (take (length keys) keys) ≡ newest = ap (last_where (is_in n b)) all ∙ sym (is ∙ are.chained.newest b room) in
    let below : last_where (is_in n b) (take (length keys) keys) ≤ length keys = last_within (is_in n b) keys (length keys) (omega arith) in
    let bucket : 0 < newest → bucket_of n (get_or keys (newest - 1) 0) ≡ b =
    subst (λ (m : ℕ). 0 < m → bucket_of n (get_or keys (m - 1) 0) ≡ b) found (last_in_bucket n b keys (length keys) (omega arith)) in
    record {
      within = omega arith;
      bucket = λ some. bucket some ∙ e;
      same = sym (ap (last_place key) (sym all) ∙ last_by_bucket n key b (sym e) keys (length keys) (omega arith) ∙ ap (λ (m : ℕ). last_place key (take m keys)) found);
    }

-- the same of the whole list
pub last_of_all : (key : ℕ) (keys : List ℕ) → last_place key (take (length keys) keys) ≡ last_place key keys
last_of_all key keys = ap (last_place key) (take-length keys)
