-- The first field of a text, read as a number.
use Rattle.std.proofs.Common.{◌≡◌, ℕ, ◌+◌, ◌-◌, ◌<◌, ◌≤◌, true, false, Option, Some, None, List, [], ◌∷◌, length, take, drop, get_or, eqb, eqb-true, refl, sym, ap, subst, ◌∙◌, inl, inr, ◌⊎◌, arith, get_or-take, length-take-le}
use Rattle.std.specs.Char.{digit_value}
use Rattle.std.specs.List.{position_or_len}
use Rattle.std.specs.Str.Parse.{AllDigits, digits_value}
use Rattle.std.proofs.lemmas.Bool.{cases_Bool, cases_lt, cases_eq, both_ways}
use Rattle.std.proofs.lemmas.Bool.Decides.{nat_tests}
use Rattle.std.proofs.lemmas.List.{take_all, take-take}
use Rattle.std.proofs.lemmas.List.Splits.{length-slice_split}
use Rattle.std.proofs.lemmas.List.Sums.{passes_at_first, position_or_len_is}
use Rattle.watch_report.specs.Fields.{◌>>=◌, fields_of, is_numeral, is_separator, number_field}
use Rattle.watch_report.specs.NextFields.{BeginsWithNumber, last_number, next_number}
use Rattle.watch_report.proofs.Numerals.{digit_below, no_number_from, number_field-numeral}
use Rattle.watch_report.proofs.Positions.{first_field, last_field, not_one_field}

-- a digit is no space
digit_no_separator : (radix x : ℕ) → radix ≤ 16 → digit_value x < radix → is_separator x ≡ false
digit_no_separator radix x most below = elim (cases_Bool (eqb x 32)) [
  | inl is ↦ absurd (let same = subst (λ n. digit_value n < radix) (eqb-true x 32 is) below in omega (arith, same, most))
  | inr not ↦ not
]

too_long : (radix : ℕ) (field : List ℕ) → 16 < length field → number_field radix field ≡ None
too_long radix field long = rw (not_numeral radix field long) refl
  where
    not_numeral : (radix : ℕ) (field : List ℕ) → 16 < length field → is_numeral radix field ≡ false
    not_numeral radix field long = grind (arith, nat_tests)

empty_is_none : (radix : ℕ) (field : List ℕ) → length field ≡ 0 → number_field radix field ≡ None
empty_is_none radix [] e = refl
empty_is_none radix (x ∷ xs) e = absurd (omega arith)

module _ (radix : ℕ) (text : List ℕ) (number count : ℕ) (begins : BeginsWithNumber radix text number count) where
  -- digits before the end and no more
  pub whole_number : 0 < count → length text ≤ count → number_field radix text ≡ Some number
  whole_number some all =
      let same : take count text ≡ text = take_all count text all in
      number_field-numeral radix text (omega (arith, begins.within)) (omega (arith, begins.short)) (subst (AllDigits radix) same begins.digits)
      ∙ ap Some (sym (begins.value ∙ ap (digits_value radix) same))

  stopped : count < length text → (count < 16) ⊎ (16 ≤ count) → number_field radix text ≡ None
  stopped less (inl few) = no_number_from radix text count less (λ below. let ended = begins.ended few less in omega (arith, ended, below))
  stopped less (inr most) = too_long radix text (omega (arith, most, less))

  pub no_whole_number : (count ≡ 0) ⊎ (count < length text) → number_field radix text ≡ None
  no_whole_number (inr less) = stopped less (cases_lt count 16)
  no_whole_number (inl none) = elim (cases_lt count (length text)) [
    | inl less ↦ stopped less (cases_lt count 16)
    | inr all ↦ empty_is_none radix text (omega (arith, none, all))
  ]

-- what stands before a place past the digits begins with them too
begins_cut : (radix : ℕ) (text : List ℕ) (number count end : ℕ) → BeginsWithNumber radix text number count → count ≤ end → end ≤ length text → BeginsWithNumber radix (take end text) number count
begins_cut radix text number count end begins past within =
    let long : length (take end text) ≡ end = length-take-le end text within in
    let same : take count text ≡ take count (take end text) = sym (take-take count end text past) in
    record {
      within = omega (arith, long, past);
      short = begins.short;
      digits = subst (AllDigits radix) same begins.digits;
      value = begins.value ∙ ap (digits_value radix) same;
      ended = λ few less.
          let before : count < end = omega (arith, long, less) in
          let ended = begins.ended few (omega (arith, before, within)) in
          subst (λ x. radix ≤ digit_value x) (sym (get_or-take end text count 0 before)) ended;
    }

-- digits stand before the first space
digits_before_space : (radix : ℕ) (text : List ℕ) (number count : ℕ) → radix ≤ 16 → BeginsWithNumber radix text number count → (k : ℕ) → k < count → is_separator (get_or text k 0) ≡ false
digits_before_space radix text number count most begins k before =
    let long : length (take count text) ≡ count = length-take-le count text begins.within in
    let digit = digit_below radix (take count text) k begins.digits (omega (arith, long, before)) in
    digit_no_separator radix (get_or text k 0) most (subst (λ x. digit_value x < radix) (get_or-take count text k 0 before) digit)

count_to_space : (radix : ℕ) (text : List ℕ) (number count : ℕ) → radix ≤ 16 → BeginsWithNumber radix text number count → position_or_len is_separator text < length text → count ≤ position_or_len is_separator text
count_to_space radix text number count most begins less = elim (cases_lt (position_or_len is_separator text) count) [
  | inl before ↦ absurd (both_ways _ (digits_before_space radix text number count most begins (position_or_len is_separator text) before) (passes_at_first is_separator text 0 less))
  | inr past ↦ past
]

-- fields that come after the first
next_from : (radix : ℕ) (a : List ℕ) (fields : List (List ℕ)) (n : ℕ) → length fields ≡ n + 1 → next_number radix (a ∷ fields) ≡ (number_field radix a >>= λ number. Some (number, fields))
next_from radix a [] n e = absurd (omega arith)
next_from radix a (b ∷ fields) n e = refl

pub next_of : (radix : ℕ) (a text : List ℕ) → next_number radix (a ∷ fields_of text) ≡ (number_field radix a >>= λ number. Some (number, fields_of text))
next_of radix a text = next_from radix a (fields_of text) _ (length-slice_split is_separator text)

pub next_is : (radix : ℕ) (text : List ℕ) (number count : ℕ) → radix ≤ 16 → BeginsWithNumber radix text number count → 0 < count → count < length text → is_separator (get_or text count 0) ≡ true
    → next_number radix (fields_of text) ≡ Some (number, fields_of (take (length text - (count + 1)) (drop (count + 1) text)))
next_is radix text number count most begins some less space =
    let place : position_or_len is_separator text ≡ count = position_or_len_is is_separator text count 0 begins.within (digits_before_space radix text number count most begins) (λ _. space) in
    let long : length (take count text) ≡ count = length-take-le count text begins.within in
    let whole : number_field radix (take count text) ≡ Some number = whole_number radix (take count text) number count (begins_cut radix text number count count begins (omega arith) begins.within) some (omega (arith, long)) in
    let rest : List ℕ = take (length text - (count + 1)) (drop (count + 1) text) in
    ap (next_number radix) (first_field text count (sym place) less) ∙ next_of radix (take count text) rest
    ∙ ap (λ (r : Option ℕ). r >>= λ number. Some (number, fields_of rest)) whole

-- no number stands first, or nothing after it
no_next_before : (radix : ℕ) (text : List ℕ) (end : ℕ) → end ≡ position_or_len is_separator text → end < length text → number_field radix (take end text) ≡ None → next_number radix (fields_of text) ≡ None
no_next_before radix text end e less none =
    let rest : List ℕ = take (length text - (end + 1)) (drop (end + 1) text) in
    ap (next_number radix) (first_field text end e less) ∙ next_of radix (take end text) rest
    ∙ ap (λ (r : Option ℕ). r >>= λ number. Some (number, fields_of rest)) none

pub no_next : (radix : ℕ) (text : List ℕ) (number count : ℕ) → radix ≤ 16 → BeginsWithNumber radix text number count → (count ≡ 0) ⊎ (is_separator (get_or text count 0) ≡ false)
    → next_number radix (fields_of text) ≡ None
no_next radix text number count most begins why =
    let end : ℕ = position_or_len is_separator text in
    elim (cases_lt end (length text)) [
      | inr all ↦ ap (next_number radix) (last_field text end refl all)
      | inl less ↦
          let past : count ≤ end = count_to_space radix text number count most begins less in
          let long : length (take end text) ≡ end = length-take-le end text (omega arith) in
          let cut = begins_cut radix text number count end begins past (omega arith) in
          let bad : (count ≡ 0) ⊎ (count < length (take end text)) = elim why [
            | inl none ↦ inl none
            | inr other ↦ inr (elim (cases_eq count end) [
              | inl same ↦ absurd (both_ways _ other (subst (λ k. is_separator (get_or text k 0) ≡ true) (sym same) (passes_at_first is_separator text 0 less)))
              | inr apart ↦ omega (arith, apart, past, long)
            ])
          ] in
          no_next_before radix text end refl less (no_whole_number radix (take end text) number count cut bad)
    ]

-- nothing after it
pub no_next_at_end : (radix : ℕ) (text : List ℕ) (number count : ℕ) → radix ≤ 16 → BeginsWithNumber radix text number count → count ≡ length text → next_number radix (fields_of text) ≡ None
no_next_at_end radix text number count most begins all =
    let end : ℕ = position_or_len is_separator text in
    elim (cases_lt end (length text)) [
      | inr none ↦ ap (next_number radix) (last_field text end refl none)
      | inl less ↦ absurd (let past = count_to_space radix text number count most begins less in omega (arith, past, less, all))
    ]

-- a text with a space in it is no number, and more than one field
pub only_number : (radix : ℕ) (text : List ℕ) → radix ≤ 16 → number_field radix text ≡ last_number radix (fields_of text)
only_number radix text most =
    let end : ℕ = position_or_len is_separator text in
    elim (cases_lt end (length text)) [
      | inr none ↦ sym (ap (last_number radix) (last_field text end refl none))
      | inl less ↦
          let space : get_or text end 0 ≡ 32 = eqb-true _ 32 (passes_at_first is_separator text 0 less) in
          let rest : List ℕ = take (length text - (end + 1)) (drop (end + 1) text) in
          no_number_from radix text end less (λ below. let same = subst (λ x. digit_value x < radix) space below in omega (arith, same, most))
          ∙ sym (ap (last_number radix) (first_field text end refl less) ∙ ap (λ (r : Option (List ℕ)). r >>= number_field radix) (not_one_field (take end text) rest))
    ]
