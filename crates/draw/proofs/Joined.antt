-- Texts in pieces are the shapes that they stand for.
use Rattle.std.proofs.Common.{◌≡◌, ◌∙◌, ◌+◌, ◌++◌, ℕ, List, codes, refl, ap₂, sym, append_assoc}
use Rattle.std.specs.Fmt.{decimal, digits}
use Rattle.draw.specs.Rows.{numbers, pair, text_opening, with_hart, with_row}
use Rattle.draw.specs.Shapes.{after, opening, text_begin}

at_84 : codes "84" ≡ decimal 84
unfolding digits
at_84 = refl

at_78 : codes "78" ≡ decimal 78
unfolding digits
at_78 = refl

after_is : (a r : List ℕ) (n : ℕ) → after a n ++ r ≡ a ++ (decimal n ++ r)
unfolding after
after_is a r n = append_assoc a (decimal n) r

opening_is : (a b r : List ℕ) → opening a b ++ r ≡ a ++ (b ++ r)
unfolding opening
opening_is a b r = append_assoc a b r

-- what is written of a row
abbrev pub row_pieces : List ℕ → List ℕ → ℕ → List ℕ → List ℕ
row_pieces svg right y n =
    svg ++ pair (codes "<line class='row' x1='84' y1='") (decimal y) ++ pair (codes "' x2='") right
    ++ pair (codes "' y2='") (decimal y) ++ pair (codes "'/>\n<text class='number' x='78' y='") (decimal (y + 4))
    ++ codes "'>" ++ n ++ codes "</text>\n"

-- a row, where the places are that each row has
abbrev row_at : List ℕ → List ℕ → List ℕ → ℕ → ℕ → List ℕ → List ℕ
row_at svg line number right y n =
    svg ++ (codes "<line class='row' x1='" ++ (line ++ (codes "' y1='" ++ (decimal y ++ (codes "' x2='" ++ (decimal right
    ++ (codes "' y2='" ++ (decimal y ++ (codes "'/>\n<text class='number' x='" ++ (number ++ (codes "' y='"
    ++ (decimal (y + 4) ++ (codes "'>" ++ (n ++ codes "</text>\n"))))))))))))))

row_in_pieces : (svg n : List ℕ) (right y : ℕ) → row_pieces svg (decimal right) y n ≡ row_at svg (codes "84") (codes "78") right y n
unfolding pair
row_in_pieces svg n right y = simp (append_assoc) refl

row_in_shapes : (svg : List ℕ) (right y first last : ℕ) → with_row svg right y first last
    ≡ row_at svg (decimal 84) (decimal 78) right y (numbers first last)
row_in_shapes svg right y first last = simp (append_assoc, after_is, opening_is) refl

pub row_is : (svg : List ℕ) (right y first last : ℕ) → row_pieces svg (decimal right) y (numbers first last) ≡ with_row svg right y first last
row_is svg right y first last =
    row_in_pieces svg (numbers first last) right y ∙ ap₂ (λ (line number : List ℕ). row_at svg line number right y (numbers first last)) at_84 at_78
    ∙ sym (row_in_shapes svg right y first last)

-- what is written of a text
abbrev pub text_pieces : List ℕ → List ℕ → List ℕ → ℕ → List ℕ → List ℕ
text_pieces svg front x y words =
    svg ++ pair front x ++ pair (codes "' y='") (decimal y) ++ codes "'>" ++ words ++ codes "</text>\n"

abbrev text_at : List ℕ → List ℕ → ℕ → ℕ → List ℕ → List ℕ
text_at svg class x y words =
    svg ++ (codes "<text class='" ++ (class ++ (codes "' x='" ++ (decimal x ++ (codes "' y='" ++ (decimal y
    ++ (codes "'>" ++ (words ++ codes "</text>\n"))))))))

text_in_pieces : (svg class words : List ℕ) (x y : ℕ) → text_pieces svg (text_opening class) (decimal x) y words ≡ text_at svg class x y words
unfolding pair
text_in_pieces svg class words x y = simp (append_assoc) refl

text_in_shapes : (svg class words : List ℕ) (x y : ℕ) → svg ++ text_begin class (record { x = x; y = y }) ++ words ++ codes "</text>\n" ≡ text_at svg class x y words
text_in_shapes svg class words x y = simp (append_assoc, after_is, opening_is) refl

pub text_is : (svg class words : List ℕ) (x y : ℕ) → text_pieces svg (text_opening class) (decimal x) y words
    ≡ svg ++ text_begin class (record { x = x; y = y }) ++ words ++ codes "</text>\n"
text_is svg class words x y = text_in_pieces svg class words x y ∙ sym (text_in_shapes svg class words x y)

-- what is written of a head
abbrev pub hart_pieces : List ℕ → ℕ → List ℕ → ℕ → ℕ → List ℕ
hart_pieces svg x y n space =
    svg ++ pair (codes "<text class='hart' x='") (decimal x) ++ pair (codes "' y='") y ++ pair (codes "'>hart ") (decimal n)
    ++ pair (codes ", space ") (decimal space) ++ codes "</text>\n"

abbrev hart_at : List ℕ → ℕ → ℕ → ℕ → ℕ → List ℕ
hart_at svg x y n space =
    svg ++ (codes "<text class='hart' x='" ++ (decimal x ++ (codes "' y='" ++ (decimal y
    ++ (codes "'>hart " ++ (decimal n ++ (codes ", space " ++ (decimal space ++ codes "</text>\n"))))))))

hart_in_pieces : (svg : List ℕ) (x y n space : ℕ) → hart_pieces svg x (decimal y) n space ≡ hart_at svg x y n space
unfolding pair
hart_in_pieces svg x y n space = simp (append_assoc) refl

hart_in_shapes : (svg : List ℕ) (x y n space : ℕ) → with_hart svg (record { x = x; y = y }) n space ≡ hart_at svg x y n space
hart_in_shapes svg x y n space = simp (append_assoc, after_is, opening_is) refl

pub hart_is : (svg : List ℕ) (x y n space : ℕ) → hart_pieces svg x (decimal y) n space ≡ with_hart svg (record { x = x; y = y }) n space
hart_is svg x y n space = hart_in_pieces svg x y n space ∙ sym (hart_in_shapes svg x y n space)
