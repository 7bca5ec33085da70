-- What is printed of the letters of a file and of its name.
use Rattle.std.specs.Prelude.{ℕ, ◌==◌, ◌||◌, Bool, List, [], ◌∷◌, ◌++◌, if◌then◌else◌}
use Rattle.std.specs.Int.{is_in_range}
use Rattle.std.specs.Char.{encode_utf8}
use Rattle.std.specs.Str.{chars}

-- the letters with the property Bidi_Control: U+061C, U+200E to U+200F, U+202A to U+202E, U+2066 to
-- U+2069 (Unicode Standard Annex 9, section 2)
abbrev pub sets_direction : ℕ → Bool
sets_direction letter =
    (letter == 0x61C)
    || (is_in_range 0x200E 0x200F letter
    || (is_in_range 0x202A 0x202E letter || is_in_range 0x2066 0x2069 letter))

-- the control characters: U+0000 to U+001F, U+007F to U+009F
abbrev pub is_control : ℕ → Bool
is_control letter = is_in_range 0 0x1F letter || is_in_range 0x7F 0x9F letter

abbrev pub is_hidden : ℕ → Bool
is_hidden letter = is_control letter || sets_direction letter

-- each letter, or `?`
abbrev pub shown_letters : List ℕ → List ℕ
shown_letters [] = []
shown_letters (letter ∷ letters) =
    encode_utf8 (if is_hidden letter then 63 else letter) ++ shown_letters letters

-- a file's name, of these bytes
abbrev pub shown_name : List ℕ → List ℕ
shown_name file = shown_letters (chars file)
