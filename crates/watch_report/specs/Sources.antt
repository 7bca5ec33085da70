-- What is left of a trace's source.
use Rattle.std.specs.Prelude.{ℕ, List, Option, Some, None}

-- what its reader has left, where it has one, and else the text
abbrev pub left_of : {R : Type 0} → (R → Option (List ℕ)) → List ℕ → Option R → Option (List ℕ)
left_of remaining text (Some reader) = remaining reader
left_of remaining text None = Some text
