-- A first field of one byte.
use Rattle.std.proofs.Common.{◌≡◌, ℕ, ◌+◌, ◌<◌, true, Option, Some, None, List, [], ◌∷◌, length, refl, ap, ◌∙◌, inl, inr, arith}
use Rattle.std.proofs.lemmas.Bool.{cases_Bool}
use Rattle.std.proofs.lemmas.List.Splits.{length-slice_split, slice_split-cons_no, slice_split-cons_yes}
use Rattle.watch_report.specs.Fields.{◌>>=◌, fields_of, is_separator}
use Rattle.watch_report.specs.NextFields.{next_letter, only_byte}

abbrev letter_with : List (List ℕ) → Option ℕ → Option (ℕ × List (List ℕ))
letter_with fields read = read >>= λ x. Some (x, fields)

letter_from : (a : List ℕ) (fields : List (List ℕ)) (n : ℕ) → length fields ≡ n + 1 → next_letter (a ∷ fields) ≡ letter_with fields (only_byte a)
letter_from a [] n e = absurd (omega arith)
letter_from a (b ∷ fields) n e = refl

letter_of : (a text : List ℕ) → next_letter (a ∷ fields_of text) ≡ letter_with (fields_of text) (only_byte a)
letter_of a text = letter_from a (fields_of text) _ (length-slice_split is_separator text)

-- the first field is empty
empty_first : (x : ℕ) (text : List ℕ) → is_separator x ≡ true → next_letter (fields_of (x ∷ text)) ≡ None
empty_first x text space = ap next_letter (slice_split-cons_yes is_separator x text space) ∙ letter_of [] text

pub no_letter_alone : (text : List ℕ) → length text < 2 → next_letter (fields_of text) ≡ None
no_letter_alone [] short = refl
no_letter_alone (x ∷ []) short = elim (cases_Bool (is_separator x)) [
  | inl space ↦ empty_first x [] space
  | inr other ↦ ap next_letter (slice_split-cons_no is_separator x [] other)
]
no_letter_alone (x ∷ y ∷ text) short = absurd (omega arith)
