-- What is read of a file.
use Rattle.std.specs.Prelude.{◌≡◌, ℕ, ◌≤◌, ◌<◌, List, ◌++◌, length, Option, IfSome}
use Rattle.std.specs.Io.KnownBytes.{Consumes, IsAtEnd}
use Rattle.scenario.specs.Limits.{most_bytes}
use Rattle.scenario.specs.declared.trouble.Trouble.{Trouble}
use Rattle.scenario.specs.declared.trouble.Trouble.TheVariants.{Usage, Unreadable, TooLarge, NoThread, Line, NoVerdict, KnownLine, Refused}
use Rattle.files.specs.declared.fault.Fault.TheVariants.{NoMemory}

-- these are the bytes that a reader has, where they are known
abbrev pub AreLeft : Option (List ℕ) → List ℕ → Type 0
AreLeft left bytes = IfSome left (λ all. bytes ≡ all)

-- no more than n known bytes were read
abbrev pub ReadsUpTo : ℕ → Option (List ℕ) → Option (List ℕ) → Type 0
ReadsUpTo n left rest = (bytes : List ℕ) × Consumes left rest bytes × (length bytes ≤ n)

-- the bytes grew by a piece of this length that the reader had in front; an empty piece comes at
-- the end alone
abbrev pub ReadsPiece : Option (List ℕ) → Option (List ℕ) → ℕ → List ℕ → List ℕ → ℕ → Type 0
ReadsPiece left rest room old new count =
    (piece : List ℕ) × (length piece ≡ count) × (count ≤ room) × (new ≡ old ++ piece)
    × Consumes left rest piece × (count ≡ 0 → 0 < room → IsAtEnd rest)

-- the reader failed, or memory ran out
abbrev pub IsPieceTrouble : Trouble → Type 0
IsPieceTrouble Usage = ⊥
IsPieceTrouble Unreadable = Unit {0}
IsPieceTrouble TooLarge = ⊥
IsPieceTrouble NoThread = ⊥
IsPieceTrouble (Line number fault some) = ⊥
IsPieceTrouble (NoVerdict line) = ⊥
IsPieceTrouble (KnownLine fault) = ⊥
IsPieceTrouble (Refused fault) = fault ≡ NoMemory

-- the same, or the reader has more than a file may have
abbrev pub IsReadTrouble : Trouble → Option (List ℕ) → Type 0
IsReadTrouble Usage left = ⊥
IsReadTrouble Unreadable left = Unit {0}
IsReadTrouble TooLarge left = IfSome left (λ bytes. most_bytes < length bytes)
IsReadTrouble NoThread left = ⊥
IsReadTrouble (Line number fault some) left = ⊥
IsReadTrouble (NoVerdict line) left = ⊥
IsReadTrouble (KnownLine fault) left = ⊥
IsReadTrouble (Refused fault) left = fault ≡ NoMemory
