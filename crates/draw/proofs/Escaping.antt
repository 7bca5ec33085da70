-- What stands for words, byte by byte.
use Rattle.std.proofs.Common.{◌≡◌, ◌∙◌, ℕ, ◌+◌, ◌<◌, ◌≤◌, List, [], ◌++◌, length, drop, get_or, ap, sym, append_assoc, append-nil}
use Rattle.std.proofs.lemmas.List.{drop_more}
use Rattle.std.proofs.Math.ListN.{drop_of_length-le}
use Rattle.draw.specs.Shapes.{escape, escaped}

-- with what stands for one byte more, what is left begins behind it
pub byte_more : (words front new all : List ℕ) (i d : ℕ) → i < length words → front ++ escape (drop i words) ≡ all
    → new ≡ front ++ escaped (get_or words i d) → new ++ escape (drop (i + 1) words) ≡ all
byte_more words front new all i d lt so_far is =
    let b : List ℕ = escaped (get_or words i d) in
    let rest : List ℕ = escape (drop (i + 1) words) in
    let left : escape (drop i words) ≡ b ++ rest = ap escape (drop_more words i d lt) in
    let whole : front ++ escape (drop i words) ≡ front ++ (b ++ rest) = ap (λ (xs : List ℕ). front ++ xs) left in
    ap (λ (xs : List ℕ). xs ++ rest) is ∙ append_assoc front b rest ∙ sym whole ∙ so_far

-- at the end nothing is left
pub bytes_end : (words front all : List ℕ) (i : ℕ) → length words ≤ i → front ++ escape (drop i words) ≡ all → front ≡ all
bytes_end words front all i past so_far =
    let none : front ++ escape (drop i words) ≡ front ++ escape [] = ap (λ (xs : List ℕ). front ++ escape xs) (drop_of_length-le words past) in
    sym (append-nil front) ∙ sym none ∙ so_far
