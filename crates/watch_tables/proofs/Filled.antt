-- The addresses of the words in frames.
use Rattle.std.proofs.Common.{ℕ, ◌≡◌, ◌+◌, ◌*◌, ◌/◌, ◌%◌, ◌<◌, ◌≤◌, Bool, true, false, Option, Some, None, List, [], ◌∷◌, ◌++◌, cond, ap, sym, ◌∙◌, subst, refl, inl, inr, ◌⊎◌, arith, IsTrue, IsSome, is_some}
use Rattle.std.specs.Prelude.{◌==◌, not, nat_le, nat_lt}
use Rattle.std.specs.Option.{unwrap_or}
use Rattle.std.specs.List.{Contains}
use Rattle.std.proofs.lemmas.Bool.{cases_lt, and_parts, and_from, ltb-true, lt-ltb, leb-true, le-leb, cond-true, cond-false}
use Rattle.std.proofs.lemmas.List.Elements.{Contains-append_left, Contains-push, Contains-push_cases}
use Rattle.walk.specs.Maps.{page_number}
use Rattle.watch.specs.declared.trace.Frames.{Frames}
use Rattle.watch.specs.Trace.{index_of, is_among}
use Rattle.watch_tables.specs.declared.frame.StoredWord.{StoredWord}
use Rattle.watch_tables.specs.Stored.{is_kept, up_to_limit, value_of}
use Rattle.watch_tables.specs.Words.{AreFilled, is_word, memory_of, word_number}

-- a word is stored under its number
module _ (stored : ℕ → Option StoredWord) where
  abbrev pub Has : ℕ → Type 0
  Has n = IsSome (stored n)

  -- the addresses of the words from a first number on, before another
  abbrev pub Sound : ℕ → ℕ → List ℕ → Type 0
  Sound start from addresses = (address : ℕ) → Contains addresses address → (number : ℕ) × (address ≡ number * 8) × (start ≤ number) × (number < from) × Has number

  abbrev pub Each : ℕ → ℕ → List ℕ → Type 0
  Each start from addresses = (number : ℕ) → start ≤ number → number < from → Has number → Contains addresses (number * 8)

  none-has : (o : Option StoredWord) → o ≡ None → IsSome o → ⊥
  none-has None is has = cc
  none-has (Some s) is has = cc

  module _ (start from number : ℕ) (old new : List ℕ) (low : start ≤ from) (later : from ≤ number) (there : Has number) (pushed : new ≡ old ++ number * 8 ∷ []) where
    pub sound-next : Sound start from old → Sound start (number + 1) new
    sound-next sound address has =
        elim (Contains-push_cases old (number * 8) address (subst (λ l. Contains l address) pushed has)) [
          | inl before ↦
              let known = sound address before in
              (known.0, known.1, known.2, let less = known.3 in omega arith, known.4)
          | inr same ↦ (number, sym same, omega arith, omega arith, there)
        ]

    pub each-next : ((q : ℕ) → from ≤ q → q < number → stored q ≡ None) → Each start from old → Each start (number + 1) new
    each-next skipped each n above below has = subst (λ l. Contains l (n * 8)) (sym pushed) (
        elim (cases_lt n from) [
          | inl earlier ↦ Contains-append_left old (number * 8 ∷ []) (n * 8) (each n above earlier has)
          | inr after ↦
              elim (cases_lt n number) [
                | inl between ↦ absurd (none-has (stored n) (skipped n after between) has)
                | inr last ↦
                    let same : number ≡ n = omega arith in
                    subst (λ k. Contains (old ++ number * 8 ∷ []) (k * 8)) same (Contains-push old (number * 8))
              ]
        ]
        )

  pub has-word : (n : ℕ) (s : StoredWord) → stored n ≡ Some s → Has n
  has-word n s is = ap is_some is

  word-at : (t i : ℕ) (s : StoredWord) → is_word t i ≡ true → stored (word_number t i) ≡ Some s → memory_of (λ n. value_of (stored n)) t i ≡ Some s.word
  word-at t i s word is = ap Some (cond-true (is_word t i) _ 0 word ∙ ap (λ (o : Option StoredWord). unwrap_or (value_of o) 0) is)

  stored-there : (t i : ℕ) (test : Bool) (o : Option StoredWord) → is_word t i ≡ test → stored (word_number t i) ≡ o → (memory_of (λ n. value_of (stored n)) t i ≡ Some 0 → ⊥) → (test ≡ true) × IsSome o
  stored-there t i true (Some s) word is filled = (refl, refl)
  stored-there t i true None word is filled = absurd (filled (ap Some (cond-true (is_word t i) _ 0 word ∙ ap (λ (o : Option StoredWord). unwrap_or (value_of o) 0) is)))
  stored-there t i false o word is filled = absurd (filled (ap Some (cond-false (is_word t i) _ 0 word)))

  not-zero : (o : Option StoredWord) (n : ℕ) → IsSome o → IsTrue (is_kept n o) → (s : StoredWord) × (o ≡ Some s) × ((Some s.word ≡ Some 0) → ⊥)
  not-zero (Some s) n some kept =
      let filled = (and_parts (nat_lt n 2305843009213693952) (not (s.word == 0)) kept).1 in
      (s, refl, (λ is. let zero : s.word ≡ 0 = cc in let e : not (s.word == 0) ≡ not (0 == 0) = ap (λ w. not (w == 0)) zero in let never : true ≡ false = sym filled ∙ e in cc))
  not-zero None n some kept = absurd (cc)

-- numbers in the bounds of frames are of words there
limit-cases : (n : ℕ) (test : Bool) → nat_lt n 4503599627370496 ≡ test → ((n < 4503599627370496) × (cond test n 4503599627370496 ≡ n)) ⊎ ((4503599627370496 ≤ n) × (cond test n 4503599627370496 ≡ 4503599627370496))
limit-cases n true is = inl (ltb-true n 4503599627370496 is, refl)
limit-cases n false is =
    elim (cases_lt n 4503599627370496) [
      | inl less ↦ absurd (let e = lt-ltb n 4503599627370496 less in cc)
      | inr more ↦ inr (more, refl)
    ]

at_limit : (n : ℕ) → ((n < 4503599627370496) × (up_to_limit n ≡ n)) ⊎ ((4503599627370496 ≤ n) × (up_to_limit n ≡ 4503599627370496))
at_limit n = limit-cases n (nat_lt n 4503599627370496) refl

module _ (frames : Frames) (number : ℕ) where
  pub among-from : up_to_limit frames.first * 512 ≤ number → number < up_to_limit (frames.first + frames.count) * 512 → IsTrue (is_among frames (number / 512)) × (number / 512 < 4503599627370496)
  among-from low below =
      elim (at_limit frames.first) [
        | inl start ↦
            let first = start.1 in
            elim (at_limit (frames.first + frames.count)) [
              | inl end ↦
                  let last = end.1 in
                  let small = end.0 in
                  (and_from (nat_le frames.first (number / 512)) _ (le-leb frames.first (number / 512) (omega arith)) (lt-ltb (number / 512) (frames.first + frames.count) (omega arith)), omega arith)
              | inr end ↦
                  let last = end.1 in
                  let large = end.0 in
                  (and_from (nat_le frames.first (number / 512)) _ (le-leb frames.first (number / 512) (omega arith)) (lt-ltb (number / 512) (frames.first + frames.count) (omega arith)), omega arith)
            ]
        | inr start ↦
            let first = start.1 in
            elim (at_limit (frames.first + frames.count)) [
              | inl end ↦ let last = end.1 in let small = end.0 in let large = start.0 in absurd (omega arith)
              | inr end ↦ let last = end.1 in absurd (omega arith)
            ]
      ]

pub bounds-from : (frames : Frames) (t i : ℕ) → IsTrue (is_among frames t) → t < 4503599627370496 → i < 512 → (up_to_limit frames.first * 512 ≤ t * 512 + i) × (t * 512 + i < up_to_limit (frames.first + frames.count) * 512)
bounds-from frames t i among small index =
    let parts = and_parts (nat_le frames.first t) (nat_lt t (frames.first + frames.count)) among in
    let from = leb-true frames.first t parts.0 in
    let below = ltb-true t (frames.first + frames.count) parts.1 in (
      elim (at_limit frames.first) [
        | inl start ↦ let first = start.1 in omega arith
        | inr start ↦ let large = start.0 in absurd (omega arith)
      ],
      elim (at_limit (frames.first + frames.count)) [
        | inl end ↦ let last = end.1 in omega arith
        | inr end ↦ let last = end.1 in omega arith
      ],
    )

pub all-filled : (stored : ℕ → Option StoredWord) (kept : (n : ℕ) → IsTrue (is_kept n (stored n))) (frames : Frames) (start from end : ℕ) (addresses : List ℕ)
    → start ≡ up_to_limit frames.first * 512 → end ≡ up_to_limit (frames.first + frames.count) * 512 → from ≤ end
    → Sound stored start from addresses → Each stored start from addresses → ((q : ℕ) → from ≤ q → q < end → stored q ≡ None)
    → AreFilled (memory_of (λ n. value_of (stored n))) frames addresses
all-filled stored kept frames start from end addresses at_start at_end le sound each none = record {
  sound = λ address has.
      let known = sound address has in
      let number = known.0 in
      let same : address ≡ number * 8 = known.1 in
      let above : start ≤ number = known.2 in
      let below : number < from = known.3 in
      let there = among-from frames number (omega arith) (omega arith) in
      let frame : number / 512 ≡ page_number address = omega arith in
      let place : number % 512 ≡ index_of address = omega arith in
      let whole : word_number (page_number address) (index_of address) ≡ number = omega arith in
      let some = not-zero stored (stored number) number known.4 (kept number) in
      let word : is_word (page_number address) (index_of address) ≡ true = and_from (nat_lt (page_number address) 4503599627370496) _ (lt-ltb (page_number address) 4503599627370496 (let small = there.1 in omega arith)) (lt-ltb (index_of address) 512 (omega arith)) in (
        subst (λ n. IsTrue (is_among frames n)) frame there.0,
        (λ zero. some.2 (sym (word-at stored (page_number address) (index_of address) some.0 word (ap stored whole ∙ some.1)) ∙ zero)),
      );
  each = λ t i among not_zero.
      let there = stored-there stored t i (is_word t i) (stored (word_number t i)) refl refl not_zero in
      let parts = and_parts (nat_lt t 4503599627370496) (nat_lt i 512) there.0 in
      let small = ltb-true t 4503599627370496 parts.0 in
      let index = ltb-true i 512 parts.1 in
      let bounds = bounds-from frames t i among small index in
      let low : start ≤ word_number t i = let b = bounds.0 in omega arith in
      let high : word_number t i < end = let b = bounds.1 in omega arith in
      record {
        address = (t * 512 + i) * 8;
        among = elim (cases_lt (t * 512 + i) from) [
          | inl before ↦ each (t * 512 + i) low before there.1
          | inr after ↦ absurd (none-has stored (stored (t * 512 + i)) (none (t * 512 + i) after high) there.1)
        ];
        frame = omega arith;
        place = omega arith;
      };
}

pub limit-most : (n : ℕ) → up_to_limit n ≤ 4503599627370496
limit-most n =
    elim (at_limit n) [
      | inl below ↦ let small = below.0 in let is = below.1 in omega arith
      | inr above ↦ let is = above.1 in omega arith
    ]
