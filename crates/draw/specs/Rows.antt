-- What each row of a picture has, and texts in pieces.
use Rattle.std.specs.Prelude.{ℕ, List, ◌+◌, ◌++◌, ◌==◌, codes, if◌then◌else◌}
use Rattle.std.specs.Fmt.{decimal}
use Rattle.draw.specs.declared.layout.Point.{Point}
use Rattle.draw.specs.Shapes.{line, text_begin}

-- a piece, and what stands behind it
unfoldable pub pair : List ℕ → List ℕ → List ℕ
pair piece behind = piece ++ behind

-- the beginning of a text of a class, up to the number of its x
abbrev pub text_opening : List ℕ → List ℕ
text_opening class = codes "<text class='" ++ (class ++ codes "' x='")

-- the number of a step, or those of a first and a last one
unfoldable pub numbers : ℕ → ℕ → List ℕ
numbers first last =
    if first == last then decimal first else decimal first ++ codes "-" ++ decimal last

-- a picture, and behind it the line of a row whose middle is at y, up to the right, and the numbers
-- of its first and last step
abbrev pub with_row : List ℕ → ℕ → ℕ → ℕ → ℕ → List ℕ
with_row svg right y first last =
    svg ++ line (codes "row") (record { x = 84; y = y }) (record { x = right; y = y })
    ++ text_begin (codes "number") (record { x = 78; y = y + 4 }) ++ numbers first last
    ++ codes "</text>\n"

-- a picture, and behind it the head of a hart's column, with its space
abbrev pub with_hart : List ℕ → Point → ℕ → ℕ → List ℕ
with_hart svg at hart space =
    svg ++ text_begin (codes "hart") at ++ codes "hart " ++ decimal hart ++ codes ", space "
    ++ decimal space ++ codes "</text>\n"
