-- The fields of a record's line, read one after another.
use Rattle.std.specs.Prelude.{ℕ, ◌≡◌, ◌≤◌, ◌<◌, List, [], ◌∷◌, get_or, length, nat_lt, take, Option, Some, None}
use Rattle.std.specs.Char.{digit_value}
use Rattle.std.specs.Str.Parse.{AllDigits, digits_value}
use Rattle.watch_report.specs.Fields.{◌>>=◌, only_if, number_field, one_field, optional_field}

-- so many digits stand in front, or the first 16 of them, and they write this number
pub record BeginsWithNumber (radix : ℕ) (text : List ℕ) (number count : ℕ) : Type 0 where
  pub within : count ≤ length text
  pub short : count ≤ 16
  pub digits : AllDigits radix (take count text)
  pub value : number ≡ digits_value radix (take count text)
  pub ended : count < 16 → count < length text → radix ≤ digit_value (get_or text count 0)

-- the number of the first field, and the fields after it; there is none where no field comes after it
abbrev pub next_number : ℕ → List (List ℕ) → Option (ℕ × List (List ℕ))
next_number radix [] = None
next_number radix (a ∷ []) = None
next_number radix (a ∷ b ∷ fields) = number_field radix a >>= λ n. Some (n, b ∷ fields)

-- the number of a single field
abbrev pub last_number : ℕ → List (List ℕ) → Option ℕ
last_number radix fields = one_field fields >>= number_field radix

-- the first field, if it is `-` or a number
abbrev pub next_optional : List (List ℕ) → Option (Option ℕ × List (List ℕ))
next_optional [] = None
next_optional (a ∷ []) = None
next_optional (a ∷ b ∷ fields) = optional_field a >>= λ n. Some (n, b ∷ fields)

abbrev pub last_optional : List (List ℕ) → Option (Option ℕ)
last_optional fields = one_field fields >>= optional_field

abbrev pub next_hart : ℕ → List (List ℕ) → Option (ℕ × List (List ℕ))
next_hart harts fields = next_number 10 fields >>= λ next. only_if (nat_lt next.0 harts) next

abbrev pub only_byte : List ℕ → Option ℕ
only_byte [] = None
only_byte (x ∷ []) = Some x
only_byte (x ∷ y ∷ bytes) = None

abbrev pub next_letter : List (List ℕ) → Option (ℕ × List (List ℕ))
next_letter [] = None
next_letter (a ∷ []) = None
next_letter (a ∷ b ∷ fields) = only_byte a >>= λ x. Some (x, b ∷ fields)
