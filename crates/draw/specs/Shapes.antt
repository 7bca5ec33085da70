-- The elements of SVG that a picture is made of.
use Rattle.std.specs.Fmt.{decimal}
use Rattle.draw.specs.declared.layout.Point.{Point}
use Rattle.draw.specs.declared.shapes.Area.{Area}
use Rattle.std.specs.Prelude.{ℕ, List, [], ◌∷◌, ◌++◌, ◌==◌, codes, nat_lt, if◌then◌else◌}

-- what stands for a byte of words: an entity for `<`, `>`, `&` and the quotes, and `?` for what is
-- not ASCII
abbrev pub escaped : ℕ → List ℕ
escaped b =
    if b == 60 then codes "&lt;" else
    if b == 62 then codes "&gt;" else
    if b == 38 then codes "&amp;" else
    if b == 34 then codes "&quot;" else
    if b == 39 then codes "&apos;" else
    if nat_lt b 128 then b ∷ [] else codes "?"

-- what stands for words
abbrev pub escape : List ℕ → List ℕ
escape [] = []
escape (b ∷ words) = escaped b ++ escape words

-- an element up to its class
unfoldable pub opening : List ℕ → List ℕ → List ℕ
opening element class = element ++ class

-- a number, after what stands before it
unfoldable pub after : List ℕ → ℕ → List ℕ
after before n = before ++ decimal n

abbrev pub rect : List ℕ → Area → List ℕ
rect class area =
    opening (codes "<rect class='") class
    ++ after (codes "' x='") area.at.x ++ after (codes "' y='") area.at.y
    ++ after (codes "' width='") area.width ++ after (codes "' height='") area.height
    ++ codes "'/>\n"

abbrev pub line : List ℕ → Point → Point → List ℕ
line class from to =
    opening (codes "<line class='") class
    ++ after (codes "' x1='") from.x ++ after (codes "' y1='") from.y
    ++ after (codes "' x2='") to.x ++ after (codes "' y2='") to.y
    ++ codes "'/>\n"

abbrev pub dot : List ℕ → Point → List ℕ
dot class at =
    codes "<circle" ++ opening (codes " class='") class
    ++ after (codes "' cx='") at.x ++ after (codes "' cy='") at.y
    ++ codes "' r='3'/>\n"

-- the beginning of a text, whose baseline begins at a point
abbrev pub text_begin : List ℕ → Point → List ℕ
text_begin class at =
    opening (codes "<text class='") class
    ++ after (codes "' x='") at.x ++ after (codes "' y='") at.y
    ++ codes "'>"

-- the beginning of a path
abbrev pub path : List ℕ → Point → List ℕ
path class at =
    opening (codes "<path class='") class ++ after (codes "' d='M") at.x ++ after (codes ",") at.y

-- a path goes level to a turn, down, and level to its end
abbrev pub turns : ℕ → Point → List ℕ
turns turn to = after (codes "H") turn ++ after (codes "V") to.y ++ after (codes "H") to.x
