-- Words with their indexes, and where each stands.
use Rattle.std.proofs.Common.{ℕ, ◌≡◌, ◌≢◌, ◌+◌, ◌-◌, ◌<◌, ◌≤◌, ◌↔◌, ◌⊎◌, Bool, true, false, Option, Some, None, List, [], ◌∷◌, ◌++◌, cond, eqb, get_or, length, map, set, slice_index_or, take, zero, suc, ap, sym, ◌∙◌, subst, refl, inl, inr, arith}
use Rattle.std.specs.Prelude.{◌==◌, ◌||◌, nat_lt, slice_get, Result, Ok, Err, OnErr}
use Rattle.std.specs.List.{AllByRecursion, IsDistinct, list_any}
use Rattle.std.specs.Option.{option_map, unwrap_or}
use Rattle.std.proofs.lemmas.Bool.{cases_eq, cases_lt, eq-eqb, eqb-true, cond-true, cond-false, false_from_ne_true, lt-ltb, ltb-true}
use Rattle.std.proofs.Math.Seq.{take-length}
use Rattle.std.proofs.lemmas.List.{length-set, take-append-le}
use Rattle.std.proofs.lemmas.Map.Steps.{length-le_from_distinct_below}
use Rattle.std.proofs.lemmas.Option.{same_Some, none-some, slice_get-get_or, slice_get_within, slice_get_past, get_or_from_slice_get}
use Rattle.tlb.proofs.Dropping.{slice_get-set_same, slice_get-set_other}
use Rattle.watch_tables.specs.declared.frame.StoredWord.{StoredWord}
use Rattle.watch_tables.specs.declared.frame.IndexedWord.{IndexedWord}
use Rattle.watch_tables.specs.Paths.{lacks_g}
use Rattle.watch_tables.specs.Stored.{value_of, word_to_store}
use Rattle.watch_tables.specs.IndexedWords.{AreIndexes, ArePlaces, IsWithout, index_at, stored_at}

abbrev pub index_in : Option IndexedWord → Option ℕ
index_in = option_map (λ (w : IndexedWord). w.index)

pub some-word : (o : Option IndexedWord) (i : ℕ) → index_in o ≡ Some i → (w : IndexedWord) × (o ≡ Some w) × (w.index ≡ i)
some-word None i is = absurd (none-some i is)
some-word (Some w) i is = (w, refl, same_Some w.index i is)

-- ---- what is stored, by places
skips : (w : IndexedWord) (words : List IndexedWord) (i : ℕ) → (w.index ≡ i → ⊥) → stored_at (w ∷ words) i ≡ stored_at words i
skips w words i other = cond-false (w.index == i) (Some w.stored) (stored_at words i) (false_from_ne_true (w.index == i) (λ h. other (eqb-true w.index i h)))

takes : (w : IndexedWord) (words : List IndexedWord) (i : ℕ) → w.index ≡ i → stored_at (w ∷ words) i ≡ Some w.stored
takes w words i same = cond-true (w.index == i) (Some w.stored) (stored_at words i) (eq-eqb w.index i same)

pub stored-none : (words : List IndexedWord) (i : ℕ) → ((p : ℕ) → index_at words p ≡ Some i → ⊥) → stored_at words i ≡ None
stored-none [] i none = refl
stored-none (w ∷ words) i none = skips w words i (λ h. none 0 (ap Some h)) ∙ stored-none words i (λ p. none (suc p))

stored-first : (words : List IndexedWord) (i p : ℕ) (w : IndexedWord) → ((q : ℕ) → index_at words q ≡ Some i → q ≡ p) → slice_get words p ≡ Some w → w.index ≡ i → stored_at words i ≡ Some w.stored
stored-first [] i p w one is same = absurd (none-some w is)
stored-first (v ∷ words) i zero w one is same =
    let one_word : v ≡ w = same_Some v w is in
    takes v words i (ap (λ (x : IndexedWord). x.index) one_word ∙ same) ∙ ap (λ (x : IndexedWord). Some x.stored) one_word
stored-first (v ∷ words) i (suc p) w one is same =
    skips v words i (λ h. let never : 0 ≡ suc p = one 0 (ap Some h) in absurd (omega arith)) ∙ stored-first words i p w (λ q at. let next : suc q ≡ suc p = one (suc q) at in omega arith) is same

pub stored-some : (words : List IndexedWord) (i : ℕ) (s : StoredWord) → stored_at words i ≡ Some s → (p : ℕ) × (w : IndexedWord) × (slice_get words p ≡ Some w) × (w.index ≡ i) × (w.stored ≡ s)
stored-some [] i s is = absurd (none-some s is)
stored-some (v ∷ words) i s is =
    elim (cases_eq v.index i) [
      | inl same ↦ (0, v, refl, same, same_Some v.stored s (sym (takes v words i same) ∙ is))
      | inr other ↦
          let rest = stored-some words i s (sym (skips v words i other) ∙ is) in
          (suc rest.0, rest.1, rest.2, rest.3, rest.4)
    ]

pub none-stored : (words : List IndexedWord) (i : ℕ) → stored_at words i ≡ None → (p : ℕ) → index_at words p ≡ Some i → ⊥
none-stored [] i none p at = none-some i at
none-stored (v ∷ words) i none zero at = none-some v.stored (sym none ∙ takes v words i (same_Some v.index i at))
none-stored (v ∷ words) i none (suc p) at =
    elim (cases_eq v.index i) [
      | inl same ↦ none-some v.stored (sym none ∙ takes v words i same)
      | inr other ↦ none-stored words i (sym (skips v words i other) ∙ none) p at
    ]

-- a word at a place is what is stored at its index
pub found : (words : List IndexedWord) → AreIndexes (index_at words) → (p : ℕ) (w : IndexedWord) → slice_get words p ≡ Some w → stored_at words w.index ≡ Some w.stored
found words are p w is = stored-first words w.index p w (λ q at. are.apart q p w.index at (ap index_in is)) is refl

-- the same where the index is known
pub found-at : (words : List IndexedWord) → AreIndexes (index_at words) → (p i : ℕ) (w : IndexedWord) → slice_get words p ≡ Some w → index_at words p ≡ Some i → stored_at words i ≡ Some w.stored
found-at words are p i w is at =
    let same : w.index ≡ i = same_Some w.index i (sym (ap index_in is) ∙ at) in
    ap (stored_at words) (sym same) ∙ found words are p w is

-- without any word each index has none, and else not
pub none-empty : (words : List IndexedWord) → length words ≡ 0 → (i : ℕ) → stored_at words i ≡ None
none-empty [] none i = refl
none-empty (w ∷ words) none i = absurd (omega arith)

pub empty-none : (words : List IndexedWord) → ((i : ℕ) → stored_at words i ≡ None) → length words ≡ 0
empty-none [] none = refl
empty-none (w ∷ words) none = absurd (none-some w.stored (sym (none w.index) ∙ takes w words w.index refl))

-- ---- how many words there are
tail-indexes : (w : IndexedWord) (words : List IndexedWord) → AreIndexes (index_at (w ∷ words)) → AreIndexes (index_at words)
tail-indexes w words are = record {
  apart = λ p q i at_p at_q. let next : suc p ≡ suc q = are.apart (suc p) (suc q) i at_p at_q in omega arith;
  small = λ p i at. are.small (suc p) i at;
}

abbrev indexes_of : List IndexedWord → List ℕ
indexes_of = map (λ (w : IndexedWord). w.index)

none-among : (words : List IndexedWord) (k : ℕ) → ((p : ℕ) → index_at words p ≡ Some k → ⊥) → AllByRecursion (λ y. eqb k y ≡ false) (indexes_of words)
none-among [] k none = tt
none-among (w ∷ words) k none = (false_from_ne_true (eqb k w.index) (λ h. none 0 (ap Some (sym (eqb-true k w.index h)))), none-among words k (λ p. none (suc p)))

distinct : (words : List IndexedWord) → AreIndexes (index_at words) → IsDistinct eqb (indexes_of words)
unfolding IsDistinct
distinct [] are = tt
distinct (w ∷ words) are =
    (none-among words w.index (λ p at. let never : 0 ≡ suc p = are.apart 0 (suc p) w.index refl at in absurd (omega arith)), distinct words (tail-indexes w words are))

or-cases : (a b : Bool) {P : Type 0} → (a || b) ≡ true → (a ≡ true → P) → (b ≡ true → P) → P
or-cases true b is left right = left refl
or-cases false b is left right = right is

below-each : (words : List IndexedWord) → AreIndexes (index_at words) → (q : ℕ) → list_any (eqb q) (indexes_of words) ≡ true → q < 512
below-each [] are q has = absurd (let never : false ≡ true = has in cc)
below-each (w ∷ words) are q has =
    or-cases (eqb q w.index) (list_any (eqb q) (indexes_of words)) has
    (λ h. are.small 0 q (ap Some (sym (eqb-true q w.index h))))
    (λ h. below-each words (tail-indexes w words are) q h)

length-indexes : (words : List IndexedWord) → length (indexes_of words) ≡ length words
length-indexes [] = refl
length-indexes (w ∷ words) = let rest = length-indexes words in omega arith

pub most : (words : List IndexedWord) → AreIndexes (index_at words) → length words ≤ 512
most words are =
    let le = length-le_from_distinct_below (indexes_of words) 512 (distinct words are) (below-each words are) in
    let long = length-indexes words in
    omega arith

-- ---- other words with all indexes but one
module _ (old new : List IndexedWord) (k : ℕ) (are : AreIndexes (index_at new))
    (onward : (p : ℕ) (w : IndexedWord) → slice_get old p ≡ Some w → (w.index ≡ k → ⊥) → (q : ℕ) × (slice_get new q ≡ Some w))
    (back : (q : ℕ) (w : IndexedWord) → slice_get new q ≡ Some w → (w.index ≡ k → ⊥) → (p : ℕ) × (slice_get old p ≡ Some w)) where
  stays-as : (i : ℕ) → (i ≡ k → ⊥) → (o : Option StoredWord) → stored_at old i ≡ o → stored_at new i ≡ o
  stays-as i other None is = stored-none new i (λ q at.
      let has = some-word (slice_get new q) i at in
      let was = back q has.0 has.1 (λ h. other (sym has.2 ∙ h)) in
      none-stored old i is was.0 (ap index_in was.1 ∙ ap Some has.2))
  stays-as i other (Some s) is =
      let has = stored-some old i s is in
      let now = onward has.0 has.1 has.2 (λ h. other (sym has.3 ∙ h)) in
      ap (stored_at new) (sym has.3) ∙ found new are now.0 has.1 now.1 ∙ ap Some has.4

  pub all-but : (here : Option StoredWord) → stored_at new k ≡ here → (i : ℕ) → stored_at new i ≡ cond (i == k) here (stored_at old i)
  all-but here is i =
      elim (cases_eq i k) [
        | inl same ↦ ap (stored_at new) same ∙ is ∙ sym (cond-true (i == k) here (stored_at old i) (eq-eqb i k same))
        | inr other ↦ stays-as i other (stored_at old i) refl ∙ sym (cond-false (i == k) here (stored_at old i) (false_from_ne_true (i == k) (λ h. other (eqb-true i k h))))
      ]

-- ---- the same indexes
pub same-indexes : (old new : ℕ → Option ℕ) → ((p : ℕ) → new p ≡ old p) → AreIndexes old → AreIndexes new
same-indexes old new same are = record {
  apart = λ p q i at_p at_q. are.apart p q i (sym (same p) ∙ at_p) (sym (same q) ∙ at_q);
  small = λ p i at. are.small p i (sym (same p) ∙ at);
}

pub same-places : (old new : ℕ → Option ℕ) (places : List ℕ) → ((p : ℕ) → new p ≡ old p) → ArePlaces old places → ArePlaces new places
same-places old new places same are = record {
  whole = are.whole;
  each = λ i p. ((λ is. same p ∙ (are.each i p).0 is), (λ at. (are.each i p).1 (sym (same p) ∙ at)));
}

-- a word is put over another one with its index
module _ (words : List IndexedWord) (place k : ℕ) (w : IndexedWord) (at : index_at words place ≡ Some k) (has : w.index ≡ k) where
  there : (v : IndexedWord) × (slice_get words place ≡ Some v) × (v.index ≡ k)
  there = some-word (slice_get words place) k at

  within : place < length words
  within = slice_get_within words place there.0 there.1

  pub indexes-set : (p : ℕ) → index_at (set words place w) p ≡ index_at words p
  indexes-set p =
      elim (cases_eq place p) [
        | inl same ↦ ap (λ q. index_at (set words place w) q) (sym same) ∙ ap index_in (slice_get-set_same words place w within) ∙ ap Some has ∙ sym at ∙ ap (index_at words) same
        | inr other ↦ ap index_in (slice_get-set_other words place p w other)
      ]

  pub stored-set : AreIndexes (index_at words) → (i : ℕ) → stored_at (set words place w) i ≡ cond (i == k) (Some w.stored) (stored_at words i)
  stored-set are =
      let new : List IndexedWord = set words place w in
      let are_new : AreIndexes (index_at new) = same-indexes (index_at words) (index_at new) indexes-set are in
      let here : slice_get new place ≡ Some w = slice_get-set_same words place w within in
      all-but words new k are_new
      (λ p v is other. (p, slice_get-set_other words place p w (λ h. other (same_Some v.index k (sym (ap index_in is) ∙ ap (index_at words) (sym h) ∙ at))) ∙ is))
      (λ q v is other. (q, sym (slice_get-set_other words place q w (λ h. other (same_Some v.index k (sym (ap index_in is) ∙ ap (index_at new) (sym h) ∙ ap index_in here ∙ ap Some has)))) ∙ is))
      (Some w.stored) (ap (stored_at new) (sym has) ∙ found new are_new place w here)

-- ---- one index more
module _ (old new : ℕ → Option ℕ) (n k : ℕ) (here : new n ≡ Some k) (others : (p : ℕ) → (p ≡ n → ⊥) → new p ≡ old p) (none : (p : ℕ) → old p ≡ Some k → ⊥) (small : k < 512) where
  pub indexes-with : AreIndexes old → AreIndexes new
  indexes-with are = record {
    apart = λ p q i at_p at_q.
        elim (cases_eq p n) [
          | inl p_last ↦
              elim (cases_eq q n) [
                | inl q_last ↦ p_last ∙ sym q_last
                | inr q_other ↦ absurd (none q (sym (others q q_other) ∙ at_q ∙ sym at_p ∙ ap new p_last ∙ here))
              ]
          | inr p_other ↦
              elim (cases_eq q n) [
                | inl q_last ↦ absurd (none p (sym (others p p_other) ∙ at_p ∙ sym at_q ∙ ap new q_last ∙ here))
                | inr q_other ↦ are.apart p q i (sym (others p p_other) ∙ at_p) (sym (others q q_other) ∙ at_q)
              ]
        ];
    small = λ p i at.
        elim (cases_eq p n) [
          | inl last ↦ let same : k ≡ i = same_Some k i (sym here ∙ ap new (sym last) ∙ at) in omega arith
          | inr other ↦ are.small p i (sym (others p other) ∙ at)
        ];
  }

  each-with : (places : List ℕ) → ArePlaces old places → old n ≡ None → (i p : ℕ) → (slice_get (set places k (n + 1)) i ≡ Some (p + 1)) ↔ (new p ≡ Some i)
  each-with places are free i p =
      let whole : length places ≡ 512 = are.whole in
      elim (cases_eq k i) [
        | inl same ↦
            let put : slice_get (set places k (n + 1)) i ≡ Some (n + 1) = ap (slice_get (set places k (n + 1))) (sym same) ∙ slice_get-set_same places k (n + 1) (omega arith) in (
              (λ is. let one : n + 1 ≡ p + 1 = same_Some (n + 1) (p + 1) (sym put ∙ is) in let last : n ≡ p = omega arith in ap new (sym last) ∙ here ∙ ap Some same),
              (λ at. elim (cases_eq p n) [
                | inl last ↦ put ∙ ap (λ (q : ℕ). Some (q + 1)) (sym last)
                | inr other ↦ absurd (none p (sym (others p other) ∙ at ∙ ap Some (sym same)))
              ]),
            )
        | inr differ ↦
            let put : slice_get (set places k (n + 1)) i ≡ slice_get places i = slice_get-set_other places k i (n + 1) differ in (
              (λ is.
                  let at : old p ≡ Some i = (are.each i p).0 (sym put ∙ is) in
                  others p (λ h. none-some i (sym free ∙ ap old (sym h) ∙ at)) ∙ at),
              (λ at. elim (cases_eq p n) [
                | inl last ↦ absurd (differ (same_Some k i (sym here ∙ ap new (sym last) ∙ at)))
                | inr other ↦ put ∙ (are.each i p).1 (sym (others p other) ∙ at)
              ]),
            )
      ]

  pub places-with : (places : List ℕ) → ArePlaces old places → old n ≡ None → ArePlaces new (set places k (n + 1))
  places-with places are free = record {
    whole = let whole : length places ≡ 512 = are.whole in omega (arith, length-set places k (n + 1));
    each = each-with places are free;
  }

-- ---- one word more
last-of : (words : List IndexedWord) (w : IndexedWord) → slice_get (words ++ w ∷ []) (length words) ≡ Some w
last-of [] w = refl
last-of (v ∷ words) w = last-of words w

before-last : (words : List IndexedWord) (w : IndexedWord) (p : ℕ) → (p ≡ length words → ⊥) → slice_get (words ++ w ∷ []) p ≡ slice_get words p
before-last [] w zero other = absurd (other refl)
before-last [] w (suc p) other = refl
before-last (v ∷ words) w zero other = refl
before-last (v ∷ words) w (suc p) other = before-last words w p (λ h. other (ap suc h))

module _ (words new : List IndexedWord) (w : IndexedWord) (pushed : new ≡ words ++ w ∷ []) (none : (p : ℕ) → index_at words p ≡ Some w.index → ⊥) where
  last-new : slice_get new (length words) ≡ Some w
  last-new = ap (λ (ws : List IndexedWord). slice_get ws (length words)) pushed ∙ last-of words w

  before-new : (p : ℕ) → (p ≡ length words → ⊥) → slice_get new p ≡ slice_get words p
  before-new p other = ap (λ (ws : List IndexedWord). slice_get ws p) pushed ∙ before-last words w p other

  free : index_at words (length words) ≡ None
  free = ap index_in (slice_get_past words (length words) (omega arith))

  pub indexes-push : AreIndexes (index_at words) → w.index < 512 → AreIndexes (index_at new)
  indexes-push are small = indexes-with (index_at words) (index_at new) (length words) w.index (ap index_in last-new) (λ p other. ap index_in (before-new p other)) none small are

  places-pushed : (places : List ℕ) → ArePlaces (index_at words) places → w.index < 512 → ArePlaces (index_at new) (set places w.index (length words + 1))
  places-pushed places are small = places-with (index_at words) (index_at new) (length words) w.index (ap index_in last-new) (λ p other. ap index_in (before-new p other)) none small places are free

  pub places-push : (places : List ℕ) (k n : ℕ) → k ≡ w.index → n ≡ length words → ArePlaces (index_at words) places → w.index < 512 → ArePlaces (index_at new) (set places k (n + 1))
  places-push places k n at end are small = rw (at, end) (places-pushed places are small)

  pub stored-push : AreIndexes (index_at words) → w.index < 512 → (i : ℕ) → stored_at new i ≡ cond (i == w.index) (Some w.stored) (stored_at words i)
  stored-push are small =
      let are_new : AreIndexes (index_at new) = indexes-push are small in
      all-but words new w.index are_new
      (λ p v is other. (p, before-new p (λ h. let low : p < length words = slice_get_within words p v is in absurd (omega arith)) ∙ is))
      (λ q v is other. (q, sym (before-new q (λ h. other (ap (λ (x : IndexedWord). x.index) (sym (same_Some w v (sym last-new ∙ ap (slice_get new) (sym h) ∙ is)))))) ∙ is))
      (Some w.stored) (found new are_new (length words) w last-new)

-- ---- the words before a place
abbrev pub index_below : List IndexedWord → ℕ → ℕ → Option ℕ
index_below words n p = cond (nat_lt p n) (index_at words p) None

below-is : (words : List IndexedWord) (n p : ℕ) → p < n → index_below words n p ≡ index_at words p
below-is words n p low = cond-true (nat_lt p n) (index_at words p) None (lt-ltb p n low)

below-none : (words : List IndexedWord) (n p : ℕ) → n ≤ p → index_below words n p ≡ None
below-none words n p high = cond-false (nat_lt p n) (index_at words p) None (false_from_ne_true (nat_lt p n) (λ h. let low : p < n = ltb-true p n h in absurd (omega arith)))

-- none are
pub places-none : (words : List IndexedWord) (places : List ℕ) → ArePlaces (index_at []) places → ArePlaces (index_below words 0) places
places-none words places are = same-places (index_at []) (index_below words 0) places (λ p. below-none words 0 p (omega arith)) are

pub places-first : (places : List ℕ) → length places ≡ 512 → ((i : ℕ) → i < 512 → slice_get places i ≡ Some 0) → ArePlaces (index_at []) places
places-first places whole zeros = record {
  whole = whole;
  each = λ i p. (
    (λ is.
        let low : i < length places = slice_get_within places i (p + 1) is in
        let never : 0 ≡ p + 1 = same_Some 0 (p + 1) (sym (zeros i (omega arith)) ∙ is) in
        absurd (omega arith)),
    (λ at. absurd (none-some i at)),
  );
}

-- one more is
pub places-next : (words : List IndexedWord) (n : ℕ) (w : IndexedWord) (places : List ℕ) → AreIndexes (index_at words) → slice_get words n ≡ Some w → ArePlaces (index_below words n) places → ArePlaces (index_below words (n + 1)) (set places w.index (n + 1))
places-next words n w places are is before =
    places-with (index_below words n) (index_below words (n + 1)) n w.index (below-is words (n + 1) n (omega arith) ∙ ap index_in is)
    (λ p other. elim (cases_lt p n) [
      | inl low ↦ below-is words (n + 1) p (omega arith) ∙ sym (below-is words n p low)
      | inr high ↦ below-none words (n + 1) p (omega arith) ∙ sym (below-none words n p high)
    ])
    (λ p at. elim (cases_lt p n) [
      | inl low ↦
          let one : p ≡ n = are.apart p n w.index (sym (below-is words n p low) ∙ at) (ap index_in is) in
          omega arith
      | inr high ↦ none-some w.index (sym (below-none words n p high) ∙ at)
    ])
    (are.small n w.index (ap index_in is)) places before (below-none words n n (omega arith))

-- all are
pub places-all : (words : List IndexedWord) (n : ℕ) (places : List ℕ) → length words ≤ n → ArePlaces (index_below words n) places → ArePlaces (index_at words) places
places-all words n places le are = same-places (index_below words n) (index_at words) places (λ p. elim (cases_lt p n) [
  | inl low ↦ sym (below-is words n p low)
  | inr high ↦ ap index_in (slice_get_past words p (omega arith)) ∙ sym (below-none words n p high)
]) are

-- ---- one index less
module _ (old new : ℕ → Option ℕ) (n place k : ℕ) (rest : (p : ℕ) → p ≢ place → p < n → new p ≡ old p) (moved : place < n → new place ≡ old n) (out : (p : ℕ) → n ≤ p → new p ≡ None)
    (at : old place ≡ Some k) (le : place ≤ n) (are : AreIndexes old) where
  -- where an index was before
  pub was : (p i : ℕ) → new p ≡ Some i → (p < n) × (((p ≡ place) × (old n ≡ Some i)) ⊎ ((p ≡ place → ⊥) × (old p ≡ Some i)))
  was p i is =
      elim (cases_lt p n) [
        | inl low ↦ (
          low,
          elim (cases_eq p place) [
            | inl same ↦ inl (same, sym (moved (omega arith)) ∙ ap new (sym same) ∙ is)
            | inr other ↦ inr (other, sym (rest p other low) ∙ is)
          ],
        )
        | inr high ↦ absurd (none-some i (sym (out p high) ∙ is))
      ]

  pub indexes-without : AreIndexes new
  indexes-without = record {
    apart = λ p q i at_p at_q.
        let p_was = was p i at_p in
        let q_was = was q i at_q in
        let p_low : p < n = p_was.0 in
        let q_low : q < n = q_was.0 in
        elim p_was.1 [
          | inl p_moved ↦
              elim q_was.1 [
                | inl q_moved ↦ p_moved.0 ∙ sym q_moved.0
                | inr q_kept ↦ absurd (let same : n ≡ q = are.apart n q i p_moved.1 q_kept.1 in omega arith)
              ]
          | inr p_kept ↦
              elim q_was.1 [
                | inl q_moved ↦ absurd (let same : p ≡ n = are.apart p n i p_kept.1 q_moved.1 in omega arith)
                | inr q_kept ↦ are.apart p q i p_kept.1 q_kept.1
              ]
        ];
    small = λ p i at_p.
        elim (was p i at_p).1 [
          | inl p_moved ↦ are.small n i p_moved.1
          | inr p_kept ↦ are.small p i p_kept.1
        ];
  }

  -- the index is gone
  pub gone : (p : ℕ) → new p ≡ Some k → ⊥
  gone p is =
      let p_was = was p k is in
      let low : p < n = p_was.0 in
      elim p_was.1 [
        | inl p_moved ↦ let same : n ≡ place = are.apart n place k p_moved.1 at in let here : p ≡ place = p_moved.0 in omega arith
        | inr p_kept ↦ p_kept.0 (are.apart p place k p_kept.1 at)
      ]

  module _ (m : ℕ) (last : old n ≡ Some m) (past : (p : ℕ) → n < p → old p ≡ None) (places : List ℕ) (before : ArePlaces old places) where
    abbrev after_move : List ℕ
    after_move = set places m (place + 1)

    abbrev after : List ℕ
    after = set after_move k 0

    whole_move : length after_move ≡ 512
    whole_move = let whole : length places ≡ 512 = before.whole in omega (arith, length-set places m (place + 1))

    small_k : k < 512
    small_k = are.small place k at

    small_m : m < 512
    small_m = are.small n m last

    at-k : (i p : ℕ) → k ≡ i → (slice_get after i ≡ Some (p + 1)) ↔ (new p ≡ Some i)
    at-k i p same =
        let whole : length after_move ≡ 512 = whole_move in
        let small : k < 512 = small_k in
        let put : slice_get after i ≡ Some 0 = ap (slice_get after) (sym same) ∙ slice_get-set_same after_move k 0 (omega arith) in (
          (λ is. let never : 0 ≡ p + 1 = same_Some 0 (p + 1) (sym put ∙ is) in absurd (omega arith)),
          (λ is. absurd (gone p (is ∙ ap Some (sym same)))),
        )

    at-m : (i p : ℕ) → (k ≡ i → ⊥) → m ≡ i → (slice_get after i ≡ Some (p + 1)) ↔ (new p ≡ Some i)
    at-m i p differ same =
        let whole : length places ≡ 512 = before.whole in
        let small : m < 512 = small_m in
        let put : slice_get after i ≡ Some (place + 1) = slice_get-set_other after_move k i 0 differ ∙ ap (slice_get after_move) (sym same) ∙ slice_get-set_same places m (place + 1) (omega arith) in
        let inside : place < n = elim (cases_lt place n) [
          | inl low ↦ low
          | inr high ↦ absurd (let end : place ≡ n = omega arith in differ (same_Some k i (sym at ∙ ap old end ∙ last ∙ ap Some same)))
        ] in (
          (λ is.
              let one : place + 1 ≡ p + 1 = same_Some (place + 1) (p + 1) (sym put ∙ is) in
              let here : place ≡ p = omega arith in
              ap new (sym here) ∙ moved inside ∙ last ∙ ap Some same),
          (λ is. elim (was p i is).1 [
            | inl p_moved ↦ put ∙ ap (λ (q : ℕ). Some (q + 1)) (sym p_moved.0)
            | inr p_kept ↦ absurd (let end : p ≡ n = are.apart p n m (p_kept.1 ∙ ap Some (sym same)) last in let low : p < n = (was p i is).0 in omega arith)
          ]),
        )

    at-other : (i p : ℕ) → (k ≡ i → ⊥) → (m ≡ i → ⊥) → (slice_get after i ≡ Some (p + 1)) ↔ (new p ≡ Some i)
    at-other i p differ apart =
        let put : slice_get after i ≡ slice_get places i = slice_get-set_other after_move k i 0 differ ∙ slice_get-set_other places m i (place + 1) apart in (
          (λ is.
              let was_at : old p ≡ Some i = (before.each i p).0 (sym put ∙ is) in
              let not_last : p ≡ n → ⊥ = λ h. apart (same_Some m i (sym last ∙ ap old (sym h) ∙ was_at)) in
              let not_here : p ≡ place → ⊥ = λ h. differ (same_Some k i (sym at ∙ ap old (sym h) ∙ was_at)) in
              elim (cases_lt p n) [
                | inl low ↦ rest p not_here low ∙ was_at
                | inr high ↦ absurd (elim (cases_eq p n) [
                  | inl end ↦ not_last end
                  | inr beyond ↦ none-some i (sym (past p (omega arith)) ∙ was_at)
                ])
              ]),
          (λ is. elim (was p i is).1 [
            | inl p_moved ↦ absurd (apart (same_Some m i (sym last ∙ p_moved.1)))
            | inr p_kept ↦ put ∙ (before.each i p).1 p_kept.1
          ]),
        )

    pub places-without : ArePlaces new after
    places-without = record {
      whole = let whole : length after_move ≡ 512 = whole_move in omega (arith, length-set after_move k 0);
      each = λ i p.
          elim (cases_eq k i) [
            | inl same ↦ at-k i p same
            | inr differ ↦
                elim (cases_eq m i) [
                  | inl last_too ↦ at-m i p differ last_too
                  | inr apart ↦ at-other i p differ apart
                ]
          ];
    }

-- ---- one word less
pub is-without : (words left : List IndexedWord) (place count : ℕ) → count ≡ length words → length left + 1 ≡ length words
    → ((d : IndexedWord) → place + 1 < count → slice_index_or left place d ≡ slice_index_or words (count - 1) d)
    → ((k : ℕ) (d : IndexedWord) → k ≢ place → k + 1 < count → slice_index_or left k d ≡ slice_index_or words k d) → (d : IndexedWord) → IsWithout words place left
is-without words left place count full fewer comes same d = record {
  fewer = fewer;
  rest = λ p differ low. slice_get-get_or left p d low ∙ ap Some (same p d differ (omega arith)) ∙ sym (slice_get-get_or words p d (omega arith));
  moved = λ low.
      let end : count - 1 ≡ length left = omega arith in
      slice_get-get_or left place d low ∙ ap Some (comes d (omega arith)) ∙ ap (λ k. Some (slice_index_or words k d)) end ∙ sym (slice_get-get_or words (length left) d (omega arith));
}

module _ (words left : List IndexedWord) (place k : ℕ) (is : IsWithout words place left) (at : index_at words place ≡ Some k) (are : AreIndexes (index_at words)) where
  here : (w : IndexedWord) × (slice_get words place ≡ Some w) × (w.index ≡ k)
  here = some-word (slice_get words place) k at

  in-words : place < length words
  in-words = slice_get_within words place here.0 here.1

  up-to-last : place ≤ length left
  up-to-last = let low = in-words in let fewer = is.fewer in omega arith

  out : (p : ℕ) → length left ≤ p → index_at left p ≡ None
  out p high = ap index_in (slice_get_past left p high)

  rest-at : (p : ℕ) → p ≢ place → p < length left → index_at left p ≡ index_at words p
  rest-at p differ low = ap index_in (is.rest p differ low)

  moved-at : place < length left → index_at left place ≡ index_at words (length left)
  moved-at low = ap index_in (is.moved low)

  pub indexes-left : AreIndexes (index_at left)
  indexes-left = indexes-without (index_at words) (index_at left) (length left) place k rest-at moved-at out at up-to-last are

  pub places-left : (m : ℕ) → index_at words (length left) ≡ Some m → (places : List ℕ) → ArePlaces (index_at words) places → ArePlaces (index_at left) (set (set places m (place + 1)) k 0)
  places-left m last places before =
      let fewer = is.fewer in
      places-without (index_at words) (index_at left) (length left) place k rest-at moved-at out at up-to-last are m last (λ p high. ap index_in (slice_get_past words p (omega arith))) places before

  pub stored-left : (i : ℕ) → stored_at left i ≡ cond (i == k) None (stored_at words i)
  stored-left =
      all-but words left k indexes-left
      (λ p v there other.
      let not_here : p ≡ place → ⊥ = λ h. other (same_Some v.index k (sym (ap index_in there) ∙ ap (index_at words) h ∙ at)) in
      let low = slice_get_within words p v there in
      let fewer = is.fewer in
      elim (cases_lt p (length left)) [
        | inl before ↦ (p, is.rest p not_here before ∙ there)
        | inr after ↦
            let end : length left ≡ p = omega arith in
            let le = up-to-last in
            let inside : place < length left = elim (cases_eq place p) [
              | inl same ↦ absurd (not_here (sym same))
              | inr differ ↦ omega arith
            ] in
            (place, is.moved inside ∙ ap (slice_get words) end ∙ there)
      ])
      (λ q v there other.
      let low = slice_get_within left q v there in
      elim (cases_eq q place) [
        | inl same ↦ (length left, sym (is.moved (omega arith)) ∙ ap (slice_get left) (sym same) ∙ there)
        | inr differ ↦ (q, sym (is.rest q differ low) ∙ there)
      ])
      None
      (stored-none left k (gone (index_at words) (index_at left) (length left) place k rest-at moved-at out at up-to-last are))

-- ---- the least index of words that pass a test
pub record IsLeast (words : List IndexedWord) (test : StoredWord → Bool) (from count least : ℕ) (stored : StoredWord) : Type 0 where
  pub low : from ≤ least
  pub high : least ≤ 512
  pub is : least < 512 → stored_at words least ≡ Some stored
  pub passes : least < 512 → test stored ≡ true
  pub each : (p : ℕ) (w : IndexedWord) → p < count → slice_get words p ≡ Some w → from ≤ w.index → test w.stored ≡ true → least ≤ w.index

module _ (words : List IndexedWord) (test : StoredWord → Bool) (from : ℕ) where
  pub least-first : (stored : StoredWord) → from ≤ 512 → IsLeast words test from 0 512 stored
  least-first stored low = record {
    low = low;
    high = omega arith;
    is = λ small. absurd (omega arith);
    passes = λ small. absurd (omega arith);
    each = λ p w before. absurd (omega arith);
  }

  module _ (count least : ℕ) (stored : StoredWord) (before : IsLeast words test from count least stored) (w : IndexedWord) (there : slice_get words count ≡ Some w) where
    each-next : (now : ℕ) → now ≤ least → (from ≤ w.index → test w.stored ≡ true → now ≤ w.index)
        → (p : ℕ) (v : IndexedWord) → p < count + 1 → slice_get words p ≡ Some v → from ≤ v.index → test v.stored ≡ true → now ≤ v.index
    each-next now less own p v below at above passed =
        elim (cases_lt p count) [
          | inl earlier ↦ let le = before.each p v earlier at above passed in omega arith
          | inr last ↦
              let end : p ≡ count = omega arith in
              let same : w ≡ v = same_Some w v (sym there ∙ ap (slice_get words) (sym end) ∙ at) in
              let le : now ≤ v.index = subst (λ (x : IndexedWord). now ≤ x.index) same (own (subst (λ (x : IndexedWord). from ≤ x.index) (sym same) above) (ap (λ (x : IndexedWord). test x.stored) same ∙ passed)) in
              le
        ]

    pub least-taken : AreIndexes (index_at words) → from ≤ w.index → w.index < least → test w.stored ≡ true → IsLeast words test from (count + 1) w.index w.stored
    least-taken are above less passed = record {
      low = above;
      high = let high = before.high in omega arith;
      is = λ small. found words are count w there;
      passes = λ small. passed;
      each = each-next w.index (omega arith) (λ h t. omega arith);
    }

    pub least-passed : (from ≤ w.index → test w.stored ≡ true → least ≤ w.index) → IsLeast words test from (count + 1) least stored
    least-passed own = record {
      low = before.low;
      high = before.high;
      is = before.is;
      passes = before.passes;
      each = each-next least (omega arith) own;
    }

  -- no index before it passes
  pub none-less : (count least : ℕ) (stored : StoredWord) → IsLeast words test from count least stored → length words ≤ count → (n : ℕ) → from ≤ n → n < least → (s : StoredWord) → stored_at words n ≡ Some s → test s ≡ true → ⊥
  none-less count least stored is all n above below s at passed =
      let has = stored-some words n s at in
      let low = slice_get_within words has.0 has.1 has.2 in
      let same : has.1.index ≡ n = has.3 in
      let le : least ≤ has.1.index = is.each has.0 has.1 (omega arith) has.2 (omega arith) (ap test has.4 ∙ passed) in
      omega arith

pub none-unless : (o : Option StoredWord) → ((s : StoredWord) → o ≡ Some s → ⊥) → o ≡ None
none-unless None never = refl
none-unless (Some s) never = absurd (never s refl)

-- no word, or one that does not lack G
pub has-g : (o : Option StoredWord) → ((s : StoredWord) → o ≡ Some s → lacks_g s.word ≡ true → ⊥) → lacks_g (unwrap_or (value_of o) 0) ≡ false
has-g None never = refl
has-g (Some s) never = false_from_ne_true (lacks_g s.word) (never s refl)

-- what is read at the place of an index
pub in-words-at : (words : List IndexedWord) (p i : ℕ) → index_at words p ≡ Some i → p < length words
in-words-at words p i at =
    let has = some-word (slice_get words p) i at in
    slice_get_within words p has.0 has.1

pub read-at : (words : List IndexedWord) → AreIndexes (index_at words) → (p i : ℕ) (w : IndexedWord) → index_at words p ≡ Some i → w ≡ get_or words p w → stored_at words i ≡ Some w.stored
read-at words are p i w at is =
    let has = some-word (slice_get words p) i at in
    let same : w ≡ has.0 = is ∙ get_or_from_slice_get words p has.0 w has.1 in
    found-at words are p i w (has.1 ∙ ap Some (sym same)) at

-- no word is beyond the length of a table
pub none-beyond : (words : List IndexedWord) → AreIndexes (index_at words) → (i : ℕ) → 512 ≤ i → stored_at words i ≡ None
none-beyond words are i high = stored-none words i (λ p at. let small = are.small p i at in omega arith)

-- nothing is stored up to the next index
pub none-next : (words : List IndexedWord) (from index : ℕ) → ((n : ℕ) → from ≤ n → n < index → stored_at words n ≡ None) → stored_at words index ≡ None
    → (n : ℕ) → from ≤ n → n < index + 1 → stored_at words n ≡ None
none-next words from index before here n above below =
    elim (cases_lt n index) [
      | inl earlier ↦ before n above earlier
      | inr last ↦ let same : n ≡ index = omega arith in ap (stored_at words) same ∙ here
    ]

-- each has G, or there is none, up to the next index
pub g-next : (words : List IndexedWord) (from index : ℕ) → ((n : ℕ) → from ≤ n → n < index → lacks_g (unwrap_or (value_of (stored_at words n)) 0) ≡ false) → lacks_g (unwrap_or (value_of (stored_at words index)) 0) ≡ false
    → (n : ℕ) → from ≤ n → n < index + 1 → lacks_g (unwrap_or (value_of (stored_at words n)) 0) ≡ false
g-next words from index before here n above below =
    elim (cases_lt n index) [
      | inl earlier ↦ before n above earlier
      | inr last ↦ let same : n ≡ index = omega arith in ap (λ (k : ℕ). lacks_g (unwrap_or (value_of (stored_at words k)) 0)) same ∙ here
    ]

-- a word that is not 0 is kept, and 0 is not
pub to-store : (word count : ℕ) → (word ≡ 0 → ⊥) → word_to_store word count ≡ Some (record { word = word; since = count })
to-store word count filled = cond-false (word == 0) None _ (false_from_ne_true (word == 0) (λ h. filled (eqb-true word 0 h)))

pub not-to-store : (word count : ℕ) → word ≡ 0 → word_to_store word count ≡ None
not-to-store word count is = cond-true (word == 0) None _ (eq-eqb word 0 is)

-- an index without a word stays so
pub still-none : (words : List IndexedWord) (k : ℕ) (here : Option StoredWord) → stored_at words k ≡ None → here ≡ None → (i : ℕ) → stored_at words i ≡ cond (i == k) here (stored_at words i)
still-none words k here none is i =
    elim (cases_eq i k) [
      | inl same ↦ ap (stored_at words) same ∙ none ∙ sym is ∙ sym (cond-true (i == k) here (stored_at words i) (eq-eqb i k same))
      | inr other ↦ sym (cond-false (i == k) here (stored_at words i) (false_from_ne_true (i == k) (λ h. other (eqb-true i k h))))
    ]

-- a list that is not empty
pub some-kept : (n : ℕ) (empty : Bool) → empty ≡ (n == 0) → empty ≡ false → 0 < n
some-kept zero empty is not_empty = absurd (let never : false ≡ true = sym not_empty ∙ is in cc)
some-kept (suc n) empty is not_empty = omega arith

pub on-err : {A E P : Type 0} (r : Result A E) → P → OnErr r P
on-err (Ok x) p = tt
on-err (Err e) p = p

-- what a slice writes back
pub written-back : (n : ℕ) (new rest : List ℕ) → n ≡ length new → take n (new ++ rest) ≡ new
written-back n new rest whole = ap (λ (k : ℕ). take k (new ++ rest)) whole ∙ take-append-le (length new) new rest (omega arith) ∙ take-length new
