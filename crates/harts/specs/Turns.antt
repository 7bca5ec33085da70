-- Whose turn each turn of a history is.
use Rattle.std.specs.Prelude.{ℕ, ◌≡◌, ◌==◌, List, [], ◌∷◌, length, slice_index_or, if◌then◌else◌}

-- the turns of one caller, in order, where the first list says whose each turn is
abbrev pub turns_of : {A : Type 0} → ℕ → List ℕ → List A → List A
turns_of caller [] history = []
turns_of caller (owner ∷ owners) [] = []
turns_of caller (owner ∷ owners) (turn ∷ history) =
    if owner == caller then turn ∷ turns_of caller owners history
    else turns_of caller owners history

-- each turn of the history is one caller's, and each list has that caller's turns, in order
abbrev pub IsInterleaving : {A : Type 0} → List (List A) → List A → Type 0
IsInterleaving lists history =
    (owners : List ℕ) × (length owners ≡ length history)
    × ((caller : ℕ) → slice_index_or lists caller [] ≡ turns_of caller owners history)
