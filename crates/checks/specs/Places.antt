-- Blanks at the beginning of a line, and lines that begin with a key or with the head of its table.
use Rattle.std.specs.Prelude.{ℕ, ◌≡◌, ◌<◌, ◌-◌, ◌==◌, ◌&&◌, ◌||◌, if◌then◌else◌, Bool, true, false, List, [], ◌∷◌, length, take, drop, bytes_eq, slice_get, Some}
use Rattle.std.specs.List.{slice_split}

-- a space or a tab
abbrev pub is_blank : ℕ → Bool
is_blank byte = (byte == 32) || (byte == 9)

-- what stands after the blanks at the beginning
abbrev pub after_blanks : List ℕ → List ℕ
after_blanks [] = []
after_blanks (byte ∷ line) = if is_blank byte then after_blanks line else byte ∷ line

-- the first byte is one of two
abbrev pub is_first : ℕ → ℕ → List ℕ → Bool
is_first one other [] = false
is_first one other (byte ∷ line) = (byte == one) || (byte == other)

-- a key, and behind it, after blanks, one of two bytes
abbrev pub has_key : ℕ → ℕ → List ℕ → List ℕ → Bool
has_key one other key line =
    bytes_eq (take (length key) line) key
    && is_first one other (after_blanks (drop (length key) line))

-- what stands behind an opening bracket, if one stands first
abbrev pub after_bracket : List ℕ → List ℕ
after_bracket [] = []
after_bracket (byte ∷ line) = if byte == 91 then line else byte ∷ line

-- the key of a value, before `=`, or the first of a dotted one, before `.`
abbrev pub has_value_key : List ℕ → List ℕ → Bool
has_value_key key line = has_key 61 46 key line

-- the key of a table's head, as `[key]` and `[[key]]`, or the first of a dotted one
abbrev pub has_head_key : List ℕ → List ℕ → Bool
has_head_key key line =
    is_first 91 91 line
    && has_key 93 46 key (after_blanks (after_bracket (after_bracket line)))

-- a line begins with a key, and blanks may stand before it
abbrev pub begins_with : List ℕ → List ℕ → Bool
begins_with key line =
    has_value_key key (after_blanks line) || has_head_key key (after_blanks line)

-- the lines of a text: what stands before, between and after its line feeds
abbrev pub lines_of : List ℕ → List (List ℕ)
lines_of text = slice_split (λ byte. byte == 10) text

-- the line of this number, from 1 on, begins with the key
pub record IsKeyLine (text key : List ℕ) (number : ℕ) : Type 0 where
  pub from_one : 0 < number
  pub line : List ℕ
  pub is : slice_get (lines_of text) (number - 1) ≡ Some line
  pub begins : begins_with key line ≡ true
