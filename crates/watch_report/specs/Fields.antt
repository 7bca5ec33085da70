-- The fields of a line of a trace, and the numbers that they write.
use Rattle.std.specs.Prelude.{ℕ, Bool, ◌==◌, ◌&&◌, nat_lt, nat_le, codes, List, [], ◌∷◌, length}
use Rattle.std.specs.Prelude.{Option, Some, None, option_map, option_and_then, if◌then◌else◌}
use Rattle.std.specs.Char.{digit_value}
use Rattle.std.specs.List.{list_all, slice_split}
use Rattle.std.specs.Str.{bytes_eq}
use Rattle.std.specs.Str.Parse.{digits_value}

-- a line has no form if one of its fields is wrong
infixl 10 ◌>>=◌
abbrev pub ◌>>=◌ : {A B : Type 0} → Option A → (A → Option B) → Option B
read >>= f = option_and_then f read

abbrev pub only_if : {A : Type 0} → Bool → A → Option A
only_if test x = if test then Some x else None

abbrev pub is_separator : ℕ → Bool
is_separator byte = byte == 32

-- what stands between the spaces: a field is empty where two spaces meet
abbrev pub fields_of : List ℕ → List (List ℕ)
fields_of text = slice_split is_separator text

-- ---- one to five fields, and no more

abbrev pub one_field : List (List ℕ) → Option (List ℕ)
one_field [] = None
one_field (a ∷ []) = Some a
one_field (a ∷ b ∷ fields) = None

abbrev pub two_fields : List (List ℕ) → Option (List ℕ × List ℕ)
two_fields [] = None
two_fields (a ∷ fields) = option_map (λ b. (a, b)) (one_field fields)

abbrev pub three_fields : List (List ℕ) → Option (List ℕ × List ℕ × List ℕ)
three_fields [] = None
three_fields (a ∷ fields) = option_map (λ r. (a, r.0, r.1)) (two_fields fields)

abbrev pub four_fields : List (List ℕ) → Option (List ℕ × List ℕ × List ℕ × List ℕ)
four_fields [] = None
four_fields (a ∷ fields) = option_map (λ r. (a, r.0, r.1, r.2)) (three_fields fields)

abbrev pub five_fields : List (List ℕ)
    → Option (List ℕ × List ℕ × List ℕ × List ℕ × List ℕ)
five_fields [] = None
five_fields (a ∷ fields) = option_map (λ r. (a, r.0, r.1, r.2, r.3)) (four_fields fields)

-- ---- numbers

-- 1 to 16 digits of the radix, letters of either case
abbrev pub is_numeral : ℕ → List ℕ → Bool
is_numeral radix field =
    (nat_lt 0 (length field) && nat_le (length field) 16)
    && list_all (λ c. nat_lt (digit_value c) radix) field

abbrev pub number_field : ℕ → List ℕ → Option ℕ
number_field radix field = only_if (is_numeral radix field) (digits_value radix field)

abbrev pub hexadecimal_field : List ℕ → Option ℕ
hexadecimal_field field = number_field 16 field

-- a number, or `-` for none
abbrev pub optional_field : List ℕ → Option (Option ℕ)
optional_field field =
    if bytes_eq field (codes "-") then Some None else option_map Some (hexadecimal_field field)

-- a decimal number below that of the harts
abbrev pub hart_field : ℕ → List ℕ → Option ℕ
hart_field harts field = number_field 10 field >>= λ hart. only_if (nat_lt hart harts) hart
